use Rattle.std.proofs.Common.{◌≡◌, ℕ, ◌*◌, ◌≤◌, sum_by, take, drop, length}
use Rattle.std.specs.List.{zip}
use Rattle.plant_data.specs.declared.water.Group.{Group}
use Rattle.year_system.specs.Capacity.{group_mw}
use Rattle.year_system.proofs.water.hydro_mw.Given as goal

abbrev pub invariant-loop-k : goal.invariant-loop-k
invariant-loop-k l =
    record {
      value : l.total ≡ sum_by (λ (g : Group × ℕ). group_mw l.system l.period g.0 g.1) (take l.k (zip l.system.groups (drop (length l.system.thermal) l.config)));
      small : l.total ≤ 1200000 * l.k;
    }
