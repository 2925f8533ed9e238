use Rattle.hydro_shave.proofs.Levels.{IsClipLevel-same}
use Rattle.hydro_shave.proofs.laws.clip_levels_are_one.Goals as goal

pub returns : goal.returns
returns c = IsClipLevel-same
