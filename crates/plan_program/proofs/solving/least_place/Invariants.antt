use Rattle.std.proofs.Common.{◌<◌, length}
use Rattle.plan_program.proofs.Least.{LeastSoFar}
use Rattle.plan_program.proofs.solving.least_place.Given as goal

abbrev pub invariant-loop-i : goal.invariant-loop-i
invariant-loop-i l = record {
  within : l.place < length l.come;
  least : LeastSoFar l.come l.i l.place;
}
