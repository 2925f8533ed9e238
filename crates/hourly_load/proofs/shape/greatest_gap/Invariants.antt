use Rattle.std.proofs.Common.{◌*◌, ◌/◌, slice_index}
use Rattle.wasp_fixed.specs.Curves.{cell}
use Rattle.hourly_load.specs.Hours.{IsGreatest, distance}
use Rattle.hourly_load.proofs.shape.greatest_gap.Given as goal

abbrev pub invariant-loop-x : goal.invariant-loop-x
invariant-loop-x l = IsGreatest (λ x. distance (cell l.curve.cells x * l.loads) (1000000000 * slice_index l.above x) / l.loads) l.x l.error
