use Rattle.plan_certificate.proofs.Sound.{yes_true}
use Rattle.plan_certificate.proofs.laws.yes_means_true.Goals as goal

pub returns : goal.returns
returns c = yes_true
