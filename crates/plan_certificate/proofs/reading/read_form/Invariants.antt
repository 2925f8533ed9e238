use Rattle.std.proofs.Common.{take}
use Rattle.plan_certificate.specs.Form.{IsRead}
use Rattle.plan_certificate.specs.Reading.{AreInForm}
use Rattle.plan_certificate.proofs.reading.read_form.Given as goal

abbrev pub invariant-loop-k : goal.invariant-loop-k
invariant-loop-k l = record {
  form : AreInForm l.years l.width l.lines l.k;
  read : IsRead (take l.k l.lines) l.reading;
}
