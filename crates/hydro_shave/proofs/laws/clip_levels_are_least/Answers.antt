use Rattle.hydro_shave.proofs.Levels.{clip_level_of-IsClipLevel}
use Rattle.hydro_shave.proofs.laws.clip_levels_are_least.Goals as goal

pub returns : goal.returns
returns c = clip_level_of-IsClipLevel
