use Rattle.std.proofs.Common.{ℕ, ◌-◌, ◌*◌, ◌≤◌, map, take}
use Rattle.cost_terms.specs.Cost.{added_units, nothing_built, thermal_steps}
use Rattle.cost_terms.specs.Totals.{Adds, IsWithin, nothing}
use Rattle.cost_terms.specs.declared.prices.ThermalCost.{ThermalCost}
use Rattle.cost_terms.proofs.tables.thermal_sums.Given as goal

abbrev pub invariant-loop-k : goal.invariant-loop-k
invariant-loop-k l =
    record {
      adds : Adds l.table.horizon nothing (map (λ (s : ThermalCost × (ℕ × ℕ)). added_units s.0 (s.1.1 - s.1.0)) (take l.k (thermal_steps l.costs (nothing_built l.costs) l.config))) l.totals;
      within : IsWithin l.table.horizon l.totals;
      mw : l.totals.mw ≤ 2560000 * l.k;
    }
