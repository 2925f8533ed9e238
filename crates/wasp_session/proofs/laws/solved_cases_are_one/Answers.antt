use Rattle.wasp_session.proofs.OnenessCases.{one_case}
use Rattle.wasp_session.proofs.laws.solved_cases_are_one.Goals as goal

pub returns : goal.returns
returns c = one_case c.listings_are_one.ensures
