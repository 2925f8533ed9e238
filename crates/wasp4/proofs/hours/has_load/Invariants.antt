use Rattle.std.proofs.Common.{◌≡◌, take}
use Rattle.hourly_load.specs.Hours.{above}
use Rattle.wasp4.proofs.hours.has_load.Given as goal

abbrev pub invariant-loop-load : goal.invariant-loop-load
invariant-loop-load l = above (take l.load-index l.loads) 0 ≡ 0
