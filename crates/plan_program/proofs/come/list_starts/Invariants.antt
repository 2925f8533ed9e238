use Rattle.plan_program.specs.Starts.{AreListed}
use Rattle.plan_program.proofs.come.list_starts.Given as goal

abbrev pub invariant-loop-from : goal.invariant-loop-from
invariant-loop-from l = AreListed l.economy l.steps.year l.reached l.from-index l.starts.items
