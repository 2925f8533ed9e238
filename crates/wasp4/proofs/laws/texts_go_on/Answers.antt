use Rattle.wasp4.proofs.OneText.{goes_on}
use Rattle.wasp4.proofs.laws.texts_go_on.Goals as goal

pub returns : goal.returns
returns c = goes_on c.tellings_are_one.ensures c.telling_of_a_front.ensures c.key_lists_are_one.ensures
