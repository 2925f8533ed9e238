use Rattle.std.proofs.Common.{◌≡◌, map}
use Rattle.std.specs.Prelude.{filter}
use Rattle.deck_lines.specs.Deck.{body_of}
use Rattle.deck_lines.specs.declared.head.Head.TheVariants as heads
use Rattle.checked_deck.specs.Economy.{thermal_cost}
use Rattle.deck_check.specs.Readings.{first, is_there}
use Rattle.checked_deck.proofs.economy.thermal_costs.Given as goal

abbrev pub invariant-loop-k : goal.invariant-loop-k
invariant-loop-k l = l.candidates.items ≡ map (thermal_cost (body_of l.deck)) (filter (λ k. is_there (body_of l.deck) (heads.Thermal k)) (first l.k))
