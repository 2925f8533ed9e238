use Rattle.plan_program.proofs.Forward.{YearDone}
use Rattle.plan_program.proofs.come.costs_to_come.Given as goal

abbrev pub invariant-loop-k : goal.invariant-loop-k
invariant-loop-k l = YearDone l.table l.k l.reached.items l.years.items
