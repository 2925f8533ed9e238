use Rattle.std.proofs.Common.{◌≡◌, ℕ, ◌<◌, slice_index_or, None}
use Rattle.plan_program.proofs.solving.has_number.Given as goal

abbrev pub invariant-loop-cost : goal.invariant-loop-cost
invariant-loop-cost l = (i : ℕ) → i < l.cost-index → slice_index_or l.come i None ≡ None
