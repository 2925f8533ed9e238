use Rattle.wasp4.proofs.OneText.{one_text}
use Rattle.wasp4.proofs.laws.texts_are_one.Goals as goal

pub returns : goal.returns
returns c = one_text c.tellings_are_one.ensures c.key_lists_are_one.ensures
