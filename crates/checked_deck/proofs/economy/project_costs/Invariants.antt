use Rattle.std.proofs.Common.{◌≡◌, map}
use Rattle.deck_lines.specs.Deck.{body_of}
use Rattle.checked_deck.specs.Economy.{project_cost}
use Rattle.deck_check.specs.Readings.{first}
use Rattle.checked_deck.proofs.economy.project_costs.Given as goal

abbrev pub invariant-loop-j : goal.invariant-loop-j
invariant-loop-j l = l.costs.items ≡ map (project_cost (body_of l.deck) l.g) (first l.j)
