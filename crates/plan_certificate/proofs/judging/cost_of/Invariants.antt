use Rattle.std.proofs.Common.{◌*◌, ◌^◌, ◌≤◌}
use Rattle.cost_terms.specs.CostData.{Fits}
use Rattle.plan_certificate.specs.Steps.{WalksTo}
use Rattle.plan_certificate.proofs.judging.cost_of.Given as goal

abbrev pub invariant-loop-year : goal.invariant-loop-year
invariant-loop-year l = record {
  walk : WalksTo l.table l.chosen l.year l.before l.cost;
  fits : Fits l.table.economy l.before;
  small : l.cost ≤ l.year * (2 * 10 ^ 16);
}
