use Rattle.plant_data.proofs.Distinct.{units_distinct}
use Rattle.plant_data.proofs.listing.units_are_distinct.Goals as goal

pub returns : goal.returns
returns c = units_distinct
