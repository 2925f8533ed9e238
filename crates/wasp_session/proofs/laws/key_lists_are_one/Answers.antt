use Rattle.wasp_session.proofs.OnenessKeys.{one_key_list}
use Rattle.wasp_session.proofs.laws.key_lists_are_one.Goals as goal

pub returns : goal.returns
returns c = one_key_list
