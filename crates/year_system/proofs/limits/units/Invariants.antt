use Rattle.std.proofs.Common.{◌≡◌, take}
use Rattle.year_system.specs.System.{units}
use Rattle.year_system.proofs.limits.units.Given as goal

abbrev pub invariant-loop-plant : goal.invariant-loop-plant
invariant-loop-plant l = l.total ≡ units (take l.plant-index l.plants)
