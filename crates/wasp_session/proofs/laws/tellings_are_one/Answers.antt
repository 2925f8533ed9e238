use Rattle.wasp_session.proofs.OnenessTellings.{one_telling}
use Rattle.wasp_session.proofs.laws.tellings_are_one.Goals as goal

pub returns : goal.returns
returns c = one_telling c.listings_are_one.ensures
