use Rattle.std.proofs.Common.{◌≡◌, ◌≤◌, ◌<◌, ℕ, drop, length, slice_index, sum}
use Rattle.hourly_load.proofs.tally.sum_from_end.Given as goal

abbrev pub invariant-loop-x : goal.invariant-loop-x
invariant-loop-x l = record {
  len : length l.counts ≡ length l.initial.counts;
  within : l.x ≤ length l.counts;
  so_far : l.sum ≡ sum (drop l.x l.initial.counts);
  done : (k : ℕ) → l.x ≤ k → slice_index l.counts k ≡ sum (drop k l.initial.counts);
  kept : (k : ℕ) → k < l.x → slice_index l.counts k ≡ slice_index l.initial.counts k;
}

abbrev pub decreases-loop-x : goal.decreases-loop-x
decreases-loop-x l = l.x
