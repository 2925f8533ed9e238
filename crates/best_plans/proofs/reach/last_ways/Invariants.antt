use Rattle.best_plans.specs.Reach.{AreReached}
use Rattle.best_plans.proofs.reach.last_ways.Given as goal

abbrev pub invariant-loop-year : goal.invariant-loop-year
invariant-loop-year l = AreReached l.table l.k l.year l.reached.items
