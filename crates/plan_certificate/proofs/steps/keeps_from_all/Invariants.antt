use Rattle.plan_certificate.specs.Steps.{KeepsFromFirst}
use Rattle.plan_certificate.proofs.steps.keeps_from_all.Given as goal

abbrev pub invariant-loop-i : goal.invariant-loop-i
invariant-loop-i l = KeepsFromFirst l.rule l.economy l.layer l.names l.i l.to
