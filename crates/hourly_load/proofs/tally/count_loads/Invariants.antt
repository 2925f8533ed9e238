use Rattle.std.proofs.Common.{◌≡◌, ◌≤◌, ◌+◌, ℕ, length, slice_index, sum, take}
use Rattle.hourly_load.specs.Hours.{exactly}
use Rattle.hourly_load.proofs.tally.count_loads.Given as goal

abbrev pub invariant-loop-load : goal.invariant-loop-load
invariant-loop-load l = record {
  len : length l.counts ≡ length l.initial.counts;
  value : (x : ℕ) → slice_index l.counts x ≡ exactly (take l.load-index l.loads) (x + 1);
  total : sum l.counts ≤ l.load-index;
}
