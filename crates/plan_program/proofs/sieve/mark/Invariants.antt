use Rattle.std.proofs.Common.{◌≡◌, ℕ, ◌+◌, ◌<◌, length, slice_index}
use Rattle.std.specs.Int.{bit_at}
use Rattle.plan_program.specs.Sieve.{count_at}
use Rattle.plan_program.proofs.sieve.mark.Given as goal

abbrev pub invariant-loop-i : goal.invariant-loop-i
invariant-loop-i l = record {
  counts : length l.row ≡ 129;
  marked : (i : ℕ) → i < l.i → bit_at (slice_index l.row (count_at l.starts l.k (l.base + i))) i ≡ 1;
}
