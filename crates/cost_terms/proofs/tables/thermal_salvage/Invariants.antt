use Rattle.std.proofs.Common.{◌≡◌, ℕ, ◌-◌, ◌*◌, ◌≤◌, map, sum_by, take}
use Rattle.cost_terms.specs.Cost.{added_units, item_salvage, thermal_steps}
use Rattle.cost_terms.specs.declared.prices.ThermalCost.{ThermalCost}
use Rattle.cost_terms.proofs.tables.thermal_salvage.Given as goal

abbrev pub invariant-loop-k : goal.invariant-loop-k
invariant-loop-k l =
    record {
      value : l.total ≡ sum_by (item_salvage l.table.horizon) (map (λ (s : ThermalCost × (ℕ × ℕ)). added_units s.0 (s.1.1 - s.1.0)) (take l.k (thermal_steps l.costs l.before l.after)));
      small : l.total ≤ 256000000000000 * l.k;
    }
