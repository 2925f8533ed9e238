use Rattle.sim_sweep.proofs.DueSteps.{due_of_code}
use Rattle.sim_sweep.proofs.laws.due_words_are_of_keys.Goals as goal

pub returns : goal.returns
returns c = due_of_code
