use Rattle.std.proofs.Common.{◌≡◌, ℕ, ◌<◌, slice_index}
use Rattle.std.specs.Int.{bit_at}
use Rattle.plan_program.specs.Sieve.{HasBit}
use Rattle.plan_program.proofs.sieve.mask_of.Given as goal

abbrev pub invariant-loop-k : goal.invariant-loop-k
invariant-loop-k l = (i : ℕ) → i < 64 → ((k : ℕ) → k < l.k → slice_index l.to k < 129 → HasBit l.block l.to i k) → bit_at l.mask i ≡ 1
