use Rattle.wasp4.proofs.TrialTexts.{trial_one}
use Rattle.wasp4.proofs.laws.trials_are_one.Goals as goal

pub returns : goal.returns
returns c = trial_one c.solved_cases_are_one.ensures
