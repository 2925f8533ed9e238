use Rattle.std.proofs.Common.{◌≡◌, length, map}
use Rattle.std.specs.List.{range_with_len}
use Rattle.hourly_load.specs.Hours.{point}
use Rattle.hourly_load.proofs.shape.shape_points.Given as goal

abbrev pub invariant-loop-i : goal.invariant-loop-i
invariant-loop-i l = l.list.items ≡ map (point l.loads (length l.above) l.points) (range_with_len 0 l.i)
