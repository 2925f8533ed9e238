use Rattle.std.proofs.Common.{◌≡◌, ℕ, ◌*◌, ◌≤◌, sum_by, take}
use Rattle.std.specs.List.{zip}
use Rattle.plant_data.specs.declared.plant.Plant.{Plant}
use Rattle.year_system.specs.System.{full_mw}
use Rattle.year_system.proofs.water.candidate_mw.Given as goal

abbrev pub invariant-loop-k : goal.invariant-loop-k
invariant-loop-k l =
    record {
      value : l.total ≡ sum_by (λ (c : Plant × ℕ). c.1 * c.0.full) (take l.k (zip l.system.thermal l.config));
      small : l.total ≤ full_mw (take l.k l.system.thermal);
    }
