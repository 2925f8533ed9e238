use Rattle.std.proofs.Common.{◌≡◌}
use Rattle.std.specs.List.{flat_map}
use Rattle.deck_lines.specs.Deck.{body_of}
use Rattle.checked_deck.specs.Systems.{project_water}
use Rattle.deck_check.specs.Readings.{first, periods}
use Rattle.checked_deck.proofs.parts.water_of.Given as goal

abbrev pub invariant-loop-j : goal.invariant-loop-j
invariant-loop-j l = l.table.items ≡ flat_map (λ j. flat_map (project_water (body_of l.deck) l.g j) (first (periods (body_of l.deck)))) (first l.j)
