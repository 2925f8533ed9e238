use Rattle.std.proofs.Common.{◌≡◌, ℕ, ◌+◌, ◌<◌, ◌≤◌, length}
use Rattle.tunnel_configs.specs.Listed.{peak}
use Rattle.year_system.specs.Capacity.{capacity}
use Rattle.tunnel_configs.proofs.margin.critical_period.Given as goal

abbrev pub invariant-loop-period : goal.invariant-loop-period
invariant-loop-period l = record {
  begun : 1 ≤ l.period;
  within : l.critical < length l.system.loads;
  value : l.least ≡ capacity l.system l.config l.critical;
  least : (p : ℕ) → p < l.period → capacity l.system l.config l.critical + peak l.system p ≤ capacity l.system l.config p + peak l.system l.critical;
  earliest : (p : ℕ) → p < l.critical → capacity l.system l.config l.critical + peak l.system p < capacity l.system l.config p + peak l.system l.critical;
}
