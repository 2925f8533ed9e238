use Rattle.std.proofs.Common.{◌≡◌, map}
use Rattle.std.specs.Prelude.{filter}
use Rattle.std.specs.Prelude.{nat_lt}
use Rattle.deck_lines.specs.Deck.{body_of}
use Rattle.checked_deck.specs.Systems.{plant_of}
use Rattle.deck_check.specs.Readings.{first, units_in}
use Rattle.checked_deck.proofs.parts.existing_of.Given as goal

abbrev pub invariant-loop-p : goal.invariant-loop-p
invariant-loop-p l = l.plants.items ≡ filter (λ p. nat_lt 0 p.units) (map (λ p. plant_of (body_of l.deck) p (units_in (body_of l.deck) p l.t)) (first l.p))
