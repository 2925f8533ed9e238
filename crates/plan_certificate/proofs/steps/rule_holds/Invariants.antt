use Rattle.plan_certificate.specs.Steps.{YearsKeep}
use Rattle.plan_certificate.proofs.steps.rule_holds.Given as goal

abbrev pub invariant-loop-year : goal.invariant-loop-year
invariant-loop-year l = YearsKeep l.rule l.table l.certificate l.year
