use Rattle.std.proofs.Common.{◌≡◌, ℕ, ◌<◌, [], length, slice_index_or}
use Rattle.cost_terms.specs.StepTable.{AreProjectSums}
use Rattle.cost_terms.specs.declared.prices.GroupCost.{GroupCost}
use Rattle.cost_terms.proofs.tables.project_rows.Given as goal

abbrev pub invariant-loop-k : goal.invariant-loop-k
invariant-loop-k l = record {
  groups : length l.rows.items ≡ l.k;
  each : (k : ℕ) (d : GroupCost) → k < l.k → AreProjectSums l.horizon (slice_index_or l.costs.groups k d) (slice_index_or l.rows.items k []);
}
