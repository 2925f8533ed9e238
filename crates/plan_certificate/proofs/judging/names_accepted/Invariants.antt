use Rattle.std.proofs.Common.{◌≡◌, ℕ, ◌<◌}
use Rattle.plan_program.specs.Plans.{configs, layer_at}
use Rattle.plan_certificate.specs.Certificate.{named_in}
use Rattle.plan_certificate.specs.Steps.{names_of}
use Rattle.plan_certificate.proofs.judging.names_accepted.Given as goal

abbrev pub invariant-loop-year : goal.invariant-loop-year
invariant-loop-year l = (k : ℕ) → k < l.year → names_of (named_in l.certificate k) ≡ configs (layer_at l.table k)
