use Rattle.std.proofs.Common.{◌≡◌, ℕ, ◌+◌, ◌*◌, ◌<◌, ◌≤◌, length, slice_index_or}
use Rattle.cost_terms.specs.Cost.{added_projects}
use Rattle.cost_terms.specs.StepTable.{IsProjectSum}
use Rattle.cost_terms.specs.Totals.{Adds, IsWithin, nothing}
use Rattle.cost_terms.proofs.tables.project_sums.Given as goal

abbrev pub invariant-loop-n : goal.invariant-loop-n
invariant-loop-n l = record {
  counts : length l.row.items ≡ l.n + 1;
  adds : Adds l.horizon nothing (added_projects l.group 0 l.n) l.sums;
  within : IsWithin l.horizon l.sums;
  mw : l.sums.mw ≤ 20000 * l.n;
  each : (n : ℕ) → n < l.n + 1 → IsProjectSum l.horizon l.group n (slice_index_or l.row.items n nothing);
}
