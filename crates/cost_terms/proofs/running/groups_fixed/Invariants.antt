use Rattle.std.proofs.Common.{◌≡◌, ℕ, ◌*◌, ◌≤◌, sum_by, take, drop, length}
use Rattle.std.specs.List.{zip}
use Rattle.cost_terms.specs.Cost.{projects_mw}
use Rattle.cost_terms.specs.declared.prices.GroupCost.{GroupCost}
use Rattle.cost_terms.proofs.running.groups_fixed.Given as goal

abbrev pub invariant-loop-k : goal.invariant-loop-k
invariant-loop-k l =
    record {
      value : l.total ≡ sum_by (λ (e : GroupCost × ℕ). projects_mw e.0 e.1 * e.0.fixed) (take l.k (zip l.costs.groups (drop (length l.costs.thermal) l.config)));
      small : l.total ≤ 6000000000 * l.k;
    }
