-- In what ranges the numbers of a trial deck are. This program's own.
use Rattle.std.specs.Prelude.{◌≤◌}
use Rattle.deck_maker.specs.declared.stream.Machine.{Machine}

-- what is drawn for a unit
pub record IsDrawn (m : Machine) : Type 0 where
  pub small : 30 ≤ m.full
  pub large : m.full ≤ 79
  pub least_heat : 2400 ≤ m.heat
  pub most_heat : m.heat ≤ 2799
  pub least_fuel : 1 ≤ m.fuel
  pub most_fuel : m.fuel ≤ 2
  pub outage : m.outage ≤ 999
  pub repair : m.repair ≤ 799
