use Rattle.best_plans.specs.Reach.{AreEntries}
use Rattle.best_plans.proofs.reach.year_ways.Given as goal

abbrev pub invariant-loop-entry : goal.invariant-loop-entry
invariant-loop-entry l = AreEntries l.table l.k l.year l.entry-index l.next.items
