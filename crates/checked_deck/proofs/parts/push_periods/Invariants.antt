use Rattle.std.proofs.Common.{◌≡◌, ◌++◌}
use Rattle.std.specs.List.{flat_map}
use Rattle.deck_lines.specs.Deck.{body_of}
use Rattle.checked_deck.specs.Systems.{project_water}
use Rattle.deck_check.specs.Readings.{first}
use Rattle.checked_deck.proofs.parts.push_periods.Given as goal

abbrev pub invariant-loop-m : goal.invariant-loop-m
invariant-loop-m l = l.table.items ≡ l.initial.table.items ++ flat_map (project_water (body_of l.deck) l.g l.j) (first l.m)
