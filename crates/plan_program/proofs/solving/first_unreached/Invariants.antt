use Rattle.std.proofs.Common.{ℕ, [], ◌<◌, slice_index_or}
use Rattle.plan_program.specs.Steps.{HasNumber}
use Rattle.plan_program.proofs.solving.first_unreached.Given as goal

abbrev pub invariant-loop-k : goal.invariant-loop-k
invariant-loop-k l = (k : ℕ) → k < l.k → HasNumber (slice_index_or l.come k [])
