use Rattle.plan_certificate.specs.Steps.{YearKeeps}
use Rattle.plan_certificate.proofs.steps.year_keeps.Given as goal

abbrev pub invariant-loop-j : goal.invariant-loop-j
invariant-loop-j l = YearKeeps l.rule l.table l.certificate l.year l.j
