use Rattle.wasp_session.proofs.DescentSteps.{costs_go_down}
use Rattle.wasp_session.proofs.laws.costs_never_rise.Goals as goal

pub returns : goal.returns
returns c = costs_go_down
