use Rattle.deck_maker.proofs.Trials.{no_fault}
use Rattle.deck_maker.proofs.laws.trials_have_no_fault.Goals as goal

pub returns : goal.returns
returns c = no_fault
