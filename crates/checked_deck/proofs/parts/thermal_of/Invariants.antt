use Rattle.std.proofs.Common.{◌≡◌, ◌+◌, map}
use Rattle.std.specs.Prelude.{filter}
use Rattle.deck_lines.specs.Deck.{body_of}
use Rattle.deck_lines.specs.declared.head.Head.TheVariants as heads
use Rattle.checked_deck.specs.Systems.{plant_of}
use Rattle.deck_check.specs.Readings.{first, is_there, number}
use Rattle.checked_deck.proofs.parts.thermal_of.Given as goal

abbrev pub invariant-loop-k : goal.invariant-loop-k
invariant-loop-k l = l.plants.items ≡ map (λ k. plant_of (body_of l.deck) (40 + k) (number (body_of l.deck) (heads.Thermal k) 0)) (filter (λ k. is_there (body_of l.deck) (heads.Thermal k)) (first l.k))
