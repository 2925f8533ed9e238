use Rattle.std.proofs.Common.{◌≡◌, ℕ, ◌<◌, [], length, slice_index_or}
use Rattle.plan_program.specs.Sieve.{IsRow}
use Rattle.plan_program.proofs.sieve.block_of.Given as goal

abbrev pub invariant-loop-k : goal.invariant-loop-k
invariant-loop-k l = record {
  rows : length l.block.items ≡ l.k;
  each : (k : ℕ) → k < l.k → IsRow l.starts l.base k (slice_index_or l.block.items k []);
}
