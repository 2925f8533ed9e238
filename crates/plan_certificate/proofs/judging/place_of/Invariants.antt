use Rattle.std.proofs.Common.{◌≢◌, ℕ, ◌<◌}
use Rattle.plan_program.specs.Plans.{entry_at}
use Rattle.plan_certificate.proofs.judging.place_of.Given as goal

abbrev pub invariant-loop-i : goal.invariant-loop-i
invariant-loop-i l = (i : ℕ) → i < l.i → (entry_at l.layer i).config ≢ l.config
