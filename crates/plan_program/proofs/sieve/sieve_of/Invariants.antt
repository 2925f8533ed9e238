use Rattle.std.proofs.Common.{◌≡◌, ℕ, ◌*◌, ◌<◌, [], length, slice_index_or}
use Rattle.plan_program.specs.Sieve.{IsBlock}
use Rattle.plan_program.proofs.sieve.sieve_of.Given as goal

abbrev pub invariant-loop-w : goal.invariant-loop-w
invariant-loop-w l = record {
  blocks : length l.sieve.items ≡ l.w;
  each : (w : ℕ) → w < l.w → IsBlock l.starts (64 * w) l.width (slice_index_or l.sieve.items w []);
}
