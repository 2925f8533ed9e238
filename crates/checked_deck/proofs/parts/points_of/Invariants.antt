use Rattle.std.proofs.Common.{◌≡◌, map}
use Rattle.std.specs.List.{range_with_len}
use Rattle.deck_check.specs.Readings.{point_in}
use Rattle.checked_deck.proofs.parts.points_of.Given as goal

abbrev pub invariant-loop-i : goal.invariant-loop-i
invariant-loop-i l = l.points.items ≡ map (point_in l.shape) (range_with_len 0 l.i)
