use Rattle.std.proofs.Common.{◌≡◌, ◌≤◌, ◌<◌, ℕ, length, slice_index}
use Rattle.hourly_load.proofs.shape.greatest.Given as goal

abbrev pub invariant-loop-load : goal.invariant-loop-load
invariant-loop-load l = record {
  bounds : (x : ℕ) → x < l.load-index → slice_index l.loads x ≤ l.peak;
  met : (place : ℕ) × (place < length l.loads) × (slice_index l.loads place ≡ l.peak);
}
