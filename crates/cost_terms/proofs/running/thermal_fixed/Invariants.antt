use Rattle.std.proofs.Common.{◌≡◌, ℕ, ◌*◌, ◌≤◌, sum_by, take}
use Rattle.std.specs.List.{zip}
use Rattle.cost_terms.specs.declared.prices.ThermalCost.{ThermalCost}
use Rattle.cost_terms.proofs.running.thermal_fixed.Given as goal

abbrev pub invariant-loop-k : goal.invariant-loop-k
invariant-loop-k l =
    record {
      value : l.total ≡ sum_by (λ (e : ThermalCost × ℕ). e.1 * e.0.full * e.0.fixed) (take l.k (zip l.costs.thermal l.config));
      small : l.total ≤ 25600000000 * l.k;
    }
