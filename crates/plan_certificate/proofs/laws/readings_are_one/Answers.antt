use Rattle.plan_certificate.proofs.Readings.{readings}
use Rattle.plan_certificate.proofs.laws.readings_are_one.Goals as goal

pub returns : goal.returns
returns c = readings
