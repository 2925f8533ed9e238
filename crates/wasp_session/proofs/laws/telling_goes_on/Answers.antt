use Rattle.wasp_session.proofs.TellSteps.{all_go_on}
use Rattle.wasp_session.proofs.laws.telling_goes_on.Goals as goal

pub returns : goal.returns
returns c = all_go_on
