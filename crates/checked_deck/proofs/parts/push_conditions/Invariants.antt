use Rattle.std.proofs.Common.{◌≡◌, ◌++◌, map}
use Rattle.std.specs.List.{range_with_len}
use Rattle.checked_deck.specs.Systems.{water_in}
use Rattle.checked_deck.proofs.parts.push_conditions.Given as goal

abbrev pub invariant-loop-i : goal.invariant-loop-i
invariant-loop-i l = l.table.items ≡ l.initial.table.items ++ map (water_in l.water) (range_with_len 0 l.i)
