use Rattle.plan_program.proofs.trace.+push_best.Given as goal

abbrev pub decreases-push_best : goal.decreases-push_best
decreases-push_best l = l.year
