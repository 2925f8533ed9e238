use Rattle.deck_check.proofs.Single.{met}
use Rattle.deck_check.proofs.search.faults_are_met.Goals as goal

pub returns : goal.returns
returns c = met
