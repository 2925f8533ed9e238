use Rattle.std.proofs.Common.{◌≡◌, ℕ, ◌<◌, [], length, slice_index_or}
use Rattle.cost_terms.specs.StepTable.{AreUnitSalvages}
use Rattle.cost_terms.specs.declared.prices.ThermalCost.{ThermalCost}
use Rattle.cost_terms.proofs.tables.unit_rows.Given as goal

abbrev pub invariant-loop-k : goal.invariant-loop-k
invariant-loop-k l = record {
  plants : length l.rows.items ≡ l.k;
  each : (k : ℕ) (d : ThermalCost) → k < l.k → AreUnitSalvages l.horizon (slice_index_or l.costs.thermal k d) (slice_index_or l.rows.items k []);
}
