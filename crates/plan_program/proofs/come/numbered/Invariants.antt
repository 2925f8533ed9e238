use Rattle.plan_program.specs.Steps.{AreNumbered}
use Rattle.plan_program.proofs.come.numbered.Given as goal

abbrev pub invariant-loop-i : goal.invariant-loop-i
invariant-loop-i l = AreNumbered l.layer l.come l.i l.reached.items
