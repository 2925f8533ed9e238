use Rattle.std.proofs.Common.{◌≡◌, ℕ, ◌<◌, ◌≤◌, []}
use Rattle.sim_fast.specs.Kept.{kept_at}
use Rattle.sim_fast.proofs.shelf.clear_all.Given as goal

abbrev pub invariant-loop-i : goal.invariant-loop-i
invariant-loop-i l =
    record {
      done : (k : ℕ) → k < l.i → kept_at l.kept k ≡ record (kept_at l.fn.kept k) { turns = [] };
      rest : (k : ℕ) → l.i ≤ k → kept_at l.kept k ≡ kept_at l.fn.kept k;
    }
