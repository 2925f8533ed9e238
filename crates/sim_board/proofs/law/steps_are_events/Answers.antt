use Rattle.sim_board.proofs.Eventful.{steps_are_events}
use Rattle.sim_board.proofs.law.steps_are_events.Goals as goal

pub returns : goal.returns
returns c = steps_are_events
