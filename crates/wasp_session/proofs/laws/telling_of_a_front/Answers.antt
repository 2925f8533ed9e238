use Rattle.wasp_session.proofs.OnenessTellings.{front_told}
use Rattle.wasp_session.proofs.laws.telling_of_a_front.Goals as goal

pub returns : goal.returns
returns c = front_told
