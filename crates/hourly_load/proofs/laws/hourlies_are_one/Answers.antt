use Rattle.hourly_load.proofs.Points.{one_hourly}
use Rattle.hourly_load.proofs.laws.hourlies_are_one.Goals as goal

pub returns : goal.returns
returns c = one_hourly
