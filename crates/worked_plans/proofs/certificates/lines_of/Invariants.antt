use Rattle.plan_certificate.specs.Reading.{AreCertLines}
use Rattle.worked_plans.proofs.certificates.lines_of.Given as goal

abbrev pub invariant-loop-line : goal.invariant-loop-line
invariant-loop-line l = AreCertLines l.lines.items
