use Rattle.deck_maker.proofs.Trials.{one_case}
use Rattle.deck_maker.proofs.laws.trials_have_one_case.Goals as goal

pub returns : goal.returns
returns c = one_case
