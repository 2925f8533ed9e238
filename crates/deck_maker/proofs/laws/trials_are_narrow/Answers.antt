use Rattle.deck_maker.proofs.Trials.{narrow}
use Rattle.deck_maker.proofs.laws.trials_are_narrow.Goals as goal

pub returns : goal.returns
returns c = narrow
