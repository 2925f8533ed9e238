use Rattle.plan_certificate.proofs.SaidVerdicts.{said_one}
use Rattle.plan_certificate.proofs.laws.said_verdicts_are_one.Goals as goal

pub returns : goal.returns
returns c = said_one
