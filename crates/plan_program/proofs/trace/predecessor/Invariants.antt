use Rattle.std.proofs.Common.{ℕ, ◌<◌, slice_index_or, None}
use Rattle.plan_program.specs.Plans.{entry_at}
use Rattle.plan_program.specs.Steps.{LeadsTo}
use Rattle.plan_program.proofs.trace.predecessor.Given as goal

abbrev pub invariant-loop-i : goal.invariant-loop-i
invariant-loop-i l = (i : ℕ) → i < l.i → LeadsTo l.economy l.year (entry_at l.layer i) (slice_index_or l.come i None) l.entry l.cost → ⊥
