use Rattle.std.proofs.Common.{◌≢◌, ◌<◌, ℕ}
use Rattle.plan_program.specs.Plans.{entry_at}
use Rattle.case_study.proofs.planned.entry_in.Given as goal

abbrev pub invariant-loop-entry : goal.invariant-loop-entry
invariant-loop-entry l = (i : ℕ) → i < l.entry-index → (entry_at l.layer i).config ≢ l.config
