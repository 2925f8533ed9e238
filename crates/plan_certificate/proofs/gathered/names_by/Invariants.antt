use Rattle.plan_certificate.specs.Gathered.{AreNumbered}
use Rattle.plan_certificate.proofs.gathered.names_by.Given as goal

abbrev pub invariant-loop-place : goal.invariant-loop-place
invariant-loop-place l = AreNumbered l.lines l.year l.place l.names.items
