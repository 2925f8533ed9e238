use Rattle.wasp_session.proofs.OnenessChecks.{one_judgement}
use Rattle.wasp_session.proofs.laws.judgements_are_one.Goals as goal

pub returns : goal.returns
returns c = one_judgement c.listings_are_one.ensures
