-- What the load for the thermal units of a period under a condition is made from. This program's own.
use Rattle.std.specs.Prelude.{ℕ, ◌+◌, ◌-◌, ◌*◌, ◌/◌, List, fold}
use Rattle.plant_data.specs.declared.shape.Point.{Point}
use Rattle.plant_data.specs.declared.water.Water.{Water}
use Rattle.year_system.specs.System.{System, hours}
use Rattle.load_curves.specs.LoadCurve.{load_curve}
use Rattle.hydro_shave.specs.Hydro.{clip_level_of, shaved, shifted}
use Rattle.sim_engine.specs.Curves.{load_of, waters}

-- the peak of the load in MW and the points of its shape, the MW of a cell, the hours of the period, and the water of
-- each group
pub record LoadData : Type 0 where
  pub peak : ℕ
  pub points : List Point
  pub step : ℕ
  pub hours : ℕ
  pub waters : List Water

-- those of a period under a condition
abbrev pub load_data : System → List ℕ → ℕ → ℕ → LoadData
load_data s counts m c =
    record { peak = (load_of s m).peak; points = (load_of s m).shape; step = s.step; hours = hours s; waters = waters s counts m c }

-- what the base blocks leave of the load, and what the peak blocks leave of that
abbrev pub bases_off : LoadData → ℕ → ℕ
bases_off d = fold (λ f w. shifted f (w.base / d.step)) (load_curve d.peak d.step d.points) d.waters

abbrev pub load_from : LoadData → ℕ → ℕ
load_from d =
    fold (λ f w. shaved f (w.peak / d.step) (clip_level_of f (w.peak / d.step) w.energy (d.step * d.hours) ((d.peak + d.step - 1) / d.step))) (bases_off d) d.waters
