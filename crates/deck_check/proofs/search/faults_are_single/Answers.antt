use Rattle.deck_check.proofs.Single.{single}
use Rattle.deck_check.proofs.search.faults_are_single.Goals as goal

pub returns : goal.returns
returns c = single
