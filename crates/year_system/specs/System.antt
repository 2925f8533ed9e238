-- The physical system of a year: all that the simulation of a year depends on, beside the configuration.
-- Names, fixed and capital costs, project capacities, and the numbers of fuels and shapes are not in it,
-- so years with equal data have one system. After the FIXSYS and VARSYS of the IAEA's Computer Manual
-- Series No. 16; the step of the grid and the limits are this program's own.
use Rattle.std.specs.Prelude.{◌≡◌, ℕ, ◌+◌, ◌-◌, ◌*◌, ◌/◌, ◌%◌, ◌^◌, ◌≤◌, List, [], ◌∷◌, ◌++◌, length, map, sum, sum_by, fold, max, All}
use Rattle.std.specs.List.Sorted.{IsStrictlyIncreasing}
use Rattle.plant_data.specs.Configs.{IsAtMost}
use Rattle.plant_data.specs.Shapes.{IsFaultless, IsInRange}
use Rattle.plant_data.specs.Units.{HasRisingNumbers}
use Rattle.plant_data.specs.declared.plant.Plant.{Plant}
use Rattle.plant_data.specs.declared.plant.Rule.{Rule}
use Rattle.plant_data.specs.declared.shape.Load.{Load}
use Rattle.plant_data.specs.declared.water.Group.{Group}
use Rattle.plant_data.specs.declared.water.Water.{Water}

-- the rule of loading; the load of each period; the weights of the hydro conditions, in ten-thousandths;
-- the existing plants with at least one unit in the year; the thermal candidates, whose units are their
-- greatest counts; the hydro groups; the step of the grid in MW
pub record System : Type 0 where
  pub rule : Rule
  pub loads : List Load
  pub weights : List ℕ
  pub existing : List Plant
  pub thermal : List Plant
  pub groups : List Group
  pub step : ℕ

-- the hours of a period
abbrev pub hours : System → ℕ
hours s = 8760 / length s.loads

-- the greatest counts of the candidates, thermal candidates first
abbrev pub greatest : System → List ℕ
greatest s = map (λ p. p.units) s.thermal ++ map (λ g. g.greatest) s.groups

-- the number of configurations with counts up to the greatest
abbrev pub size : List ℕ → ℕ
size [] = 1
size (g ∷ gs) = (g + 1) * size gs

-- a configuration has a count for each candidate, at most its greatest
pub record Fits (s : System) (counts : List ℕ) : Type 0 where
  pub width : length counts ≡ length (greatest s)
  pub most : IsAtMost counts (greatest s)

-- the units of plants, and their full capacity in MW
abbrev pub units : List Plant → ℕ
units plants = sum_by (λ p. p.units) plants

abbrev pub full_mw : List Plant → ℕ
full_mw plants = sum_by (λ p. p.units * p.full) plants

-- the greatest peak of the periods
abbrev pub greatest_peak : List Load → ℕ
greatest_peak loads = fold (λ most l. max most l.peak) 0 loads

-- the thermal units at the greatest counts, and their capacity in MW
abbrev pub unit_limit : System → ℕ
unit_limit s = units s.existing + units s.thermal

abbrev pub thermal_mw : System → ℕ
thermal_mw s = full_mw s.existing + full_mw s.thermal

-- the cells of one step that the greatest peak and all thermal units take
abbrev pub cells : System → ℕ
cells s = (greatest_peak s.loads + s.step - 1) / s.step + thermal_mw s / s.step

-- the fields of a plant are in their ranges, its base block is no greater than the whole unit, and both
-- are multiples of the step
pub record IsPlant (step : ℕ) (p : Plant) : Type 0 where
  pub units : p.units ≤ 128
  pub least : (1 ≤ p.least) × (p.least ≤ p.full)
  pub full : p.full ≤ 20000
  pub heat : p.heat ≤ 50000
  pub inc : p.inc ≤ 50000
  pub domestic : p.domestic ≤ 50000
  pub foreign : p.foreign ≤ 50000
  pub variable : p.variable ≤ 100000
  pub outage : p.outage ≤ 10000
  pub repair : p.repair ≤ 8760
  pub steps : (p.least % step ≡ 0) × (p.full % step ≡ 0)

-- the water of a project in a period under one condition is in its ranges, its blocks multiples of the step
pub record IsWater (step : ℕ) (w : Water) : Type 0 where
  pub base : w.base ≤ 20000
  pub peak : w.peak ≤ 20000
  pub energy : w.energy ≤ 200000000
  pub steps : (w.base % step ≡ 0) × (w.peak % step ≡ 0)

-- a group has the water of each of its projects for each period and condition
pub record IsGroup (step periods conditions : ℕ) (g : Group) : Type 0 where
  pub number : (1 ≤ g.number) × (g.number ≤ 2)
  pub existing : g.existing ≤ 15
  pub greatest : g.greatest ≤ 15
  pub water : length g.water ≡ (g.existing + g.greatest) * periods * conditions
  pub ranges : All (IsWater step) g.water

-- the load of a period: its peak is in its range, and its shape has no fault
pub record IsLoad (l : Load) : Type 0 where
  pub peak : (1 ≤ l.peak) × (l.peak ≤ 400000)
  pub points : (2 ≤ length l.shape) × (length l.shape ≤ 64)
  pub range : All IsInRange l.shape
  pub faultless : IsFaultless l.shape

-- what is true of every year's system: it has 1, 2, 3, 4, 6 or 12 periods and 1 to 5 conditions, its
-- plants, candidates and groups stand by rising number, and it has none of a deck's faults in its own data
pub record IsSystem (s : System) : Type 0 where
  pub step : (1 ≤ s.step) × (s.step ≤ 20)
  pub periods : (1 ≤ length s.loads) × (length s.loads ≤ 12) × (12 % length s.loads ≡ 0)
  pub loads : All IsLoad s.loads
  pub conditions : (1 ≤ length s.weights) × (length s.weights ≤ 5)
  pub weights : sum s.weights ≡ 10000
  pub existing : (length s.existing ≤ 40) × All (λ p. (1 ≤ p.number) × (p.number ≤ 40) × (1 ≤ p.units) × IsPlant s.step p) s.existing
  pub thermal : (length s.thermal ≤ 12) × All (λ p. (41 ≤ p.number) × (p.number ≤ 52) × IsPlant s.step p) s.thermal
  pub numbers : HasRisingNumbers s.existing s.thermal
  pub groups : (length s.groups ≤ 2) × All (IsGroup s.step (length s.loads) (length s.weights)) s.groups
  pub group_numbers : IsStrictlyIncreasing (map (λ g. g.number) s.groups)
  pub candidate : 1 ≤ length s.thermal + length s.groups
  pub few_units : unit_limit s ≤ 128
  pub power : (thermal_mw s + greatest_peak s.loads ≤ 65535 * s.step) × (thermal_mw s + greatest_peak s.loads ≤ 400000)
  pub codes : size (greatest s) ≤ 2 ^ 50
