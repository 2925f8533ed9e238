use Rattle.std.proofs.Common.{◌≡◌, ℕ, ◌<◌, ◌≤◌, Some}
use Rattle.plan_certificate.specs.Steps.{name_at}
use Rattle.plan_certificate.proofs.judging.is_at_most_all.Given as goal

abbrev pub invariant-loop-name : goal.invariant-loop-name
invariant-loop-name l = (i value : ℕ) → i < l.name-index → (name_at l.names i).value ≡ Some value → l.total ≤ value
