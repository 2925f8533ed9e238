use Rattle.std.specs.List.{IsFirstBest}
use Rattle.loading_order.specs.Maintenance.{is_better}
use Rattle.loading_order.proofs.periods.most_free.Given as goal

abbrev pub invariant-loop-place : goal.invariant-loop-place
invariant-loop-place l = IsFirstBest is_better l.periods l.place l.best
