use Rattle.std.proofs.Common.{All}
use Rattle.worked_sweep.specs.Trial.{IsTrial}
use Rattle.worked_sweep.proofs.gas.demands.Given as goal

abbrev pub invariant-loop-k : goal.invariant-loop-k
invariant-loop-k l = All (IsTrial l.book) l.all.items
