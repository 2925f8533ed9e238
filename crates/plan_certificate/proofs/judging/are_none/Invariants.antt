use Rattle.std.proofs.Common.{◌≡◌, ℕ, ◌<◌, None}
use Rattle.plan_certificate.specs.Steps.{name_at}
use Rattle.plan_certificate.proofs.judging.are_none.Given as goal

abbrev pub invariant-loop-name : goal.invariant-loop-name
invariant-loop-name l = (i : ℕ) → i < l.name-index → (name_at l.names i).value ≡ None
