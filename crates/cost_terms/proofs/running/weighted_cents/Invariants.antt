use Rattle.std.proofs.Common.{◌≡◌, ℕ, ◌*◌, ◌^◌, ◌≤◌, sum_by, take}
use Rattle.std.specs.List.{zip}
use Rattle.cost_terms.specs.Cost.{shortage_cost}
use Rattle.cost_terms.proofs.running.weighted_cents.Given as goal

abbrev pub invariant-loop-k : goal.invariant-loop-k
invariant-loop-k l =
    record {
      value : l.total ≡ sum_by (λ (e : ℕ × ℕ). e.0 * shortage_cost l.costs.shortage l.demand e.1) (take l.k (zip l.costs.weights l.shorts));
      small : l.total ≤ 300000000000 * 2 ^ 32 * l.k;
    }
