use Rattle.std.proofs.Common.{◌<◌, length}
use Rattle.sim_fast.specs.Kept.{IsStart}
use Rattle.sim_fast.proofs.shelf.longest.Given as goal

abbrev pub invariant-loop-i : goal.invariant-loop-i
invariant-loop-i l = l.best < length l.kept → IsStart l.kept l.turns l.best
