use Rattle.wasp4.proofs.OneText.{workers_one}
use Rattle.wasp4.proofs.laws.workers_write_one_text.Goals as goal

pub returns : goal.returns
returns c = workers_one c.tellings_are_one.ensures c.key_lists_are_one.ensures
