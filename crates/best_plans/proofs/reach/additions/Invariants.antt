use Rattle.std.proofs.Common.{◌≡◌, ℕ, ◌*◌, ◌^◌, ◌<◌, ◌≤◌, length, slice_index_or, Some, None}
use Rattle.best_plans.specs.Offers.{reached_at}
use Rattle.best_plans.specs.Reach.{IsAddition}
use Rattle.best_plans.proofs.reach.additions.Given as goal

abbrev pub invariant-loop-from : goal.invariant-loop-from
invariant-loop-from l = record {
  long : length l.added.items ≡ l.from-index;
  each : (i : ℕ) → i < l.from-index → IsAddition l.economy l.year (reached_at l.reached i).config l.entry (slice_index_or l.added.items i None);
  small : (i cost : ℕ) → slice_index_or l.added.items i None ≡ Some cost → cost ≤ 2 * 10 ^ 16;
}
