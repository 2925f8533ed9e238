use Rattle.std.proofs.Common.{◌≡◌, map}
use Rattle.std.specs.Prelude.{filter}
use Rattle.deck_lines.specs.Deck.{body_of}
use Rattle.deck_lines.specs.declared.head.Head.TheVariants as heads
use Rattle.checked_deck.specs.Economy.{plant_cost}
use Rattle.deck_check.specs.Readings.{first, is_there}
use Rattle.checked_deck.proofs.economy.plant_costs.Given as goal

abbrev pub invariant-loop-p : goal.invariant-loop-p
invariant-loop-p l = l.plants.items ≡ map (plant_cost (body_of l.deck)) (filter (λ p. is_there (body_of l.deck) (heads.Plant p)) (first l.p))
