use Rattle.std.proofs.Common.{◌≡◌, take}
use Rattle.year_system.specs.System.{full_mw}
use Rattle.year_system.proofs.limits.full_mw.Given as goal

abbrev pub invariant-loop-plant : goal.invariant-loop-plant
invariant-loop-plant l = l.total ≡ full_mw (take l.plant-index l.plants)
