-- The trials' one year, its demands and engines with room for it.
use Rattle.std.specs.Prelude.{◌≡◌, ℕ, ◌≤◌, List, length, All}
use Rattle.sim_engine.specs.Engine.{Room}
use Rattle.sim_sweep.specs.Demands.{HasRoomFor, IsDemand}
use Rattle.sim_sweep.specs.declared.demand.Demand.{Demand}
use Rattle.year_system.specs.System.{System}

-- a demand of the book's first system
pub record IsTrial (book : List System) (d : Demand) : Type 0 where
  pub demand : IsDemand book d
  pub first : d.id ≡ 0

-- room for that system
pub record HasTrialRoom (book : List System) (room : Room) : Type 0 where
  pub holds : (d : Demand) → d.id ≡ 0 → HasRoomFor room book d
