use Rattle.std.proofs.Common.{◌≡◌, ◌-◌, ◌*◌, ◌≤◌, sum_by, take, slice_index}
use Rattle.cost_terms.specs.declared.prices.PlantCost.{PlantCost}
use Rattle.cost_terms.proofs.running.plants_fixed.Given as goal

abbrev pub invariant-loop-k : goal.invariant-loop-k
invariant-loop-k l =
    record {
      value : l.total ≡ sum_by (λ (p : PlantCost). slice_index p.units (l.year - 1) * p.full * p.fixed) (take l.k l.costs.plants);
      small : l.total ≤ 25600000000 * l.k;
    }
