use Rattle.plan_certificate.proofs.Certified.{certified}
use Rattle.plan_certificate.proofs.laws.solutions_are_certified.Goals as goal

pub returns : goal.returns
returns c = certified
