-- The tables of a year, from which the cost of a step is a few additions: the salvage of each number of units
-- of a thermal candidate, and the sums over the first projects of a group. A thermal candidate's salvage
-- depends on the units that are added alone, and has a floor of its own; all other sums are those of the
-- configuration after less those of the configuration before.
use Rattle.std.specs.Prelude.{◌≡◌, ℕ, ◌+◌, ◌-◌, ◌≤◌, ◌<◌, List, [], length, map, sum_by, slice_index, slice_index_or}
use Rattle.std.specs.List.{flat_map}
use Rattle.wasp_fixed.specs.Discounts.{end_factor}
use Rattle.cost_terms.specs.Cost.{added_projects, added_units, build, domestic, foreign, group_steps, horizon, inventory, item_salvage, items, nothing_built, salvage, stock, thermal_steps}
use Rattle.cost_terms.specs.CostData.{Fits}
use Rattle.cost_terms.specs.Totals.{Adds, IsWithin, nothing}
use Rattle.cost_terms.specs.declared.additions.Horizon.{Horizon}
use Rattle.cost_terms.specs.declared.additions.Totals.{Totals}
use Rattle.cost_terms.specs.declared.prices.CostData.{CostData}
use Rattle.cost_terms.specs.declared.prices.GroupCost.{GroupCost}
use Rattle.cost_terms.specs.declared.prices.ThermalCost.{ThermalCost}
use Rattle.cost_terms.specs.declared.tables.Standing.{Standing}
use Rattle.cost_terms.specs.declared.tables.StepTable.{StepTable}

-- what the additions of a year cost, net of their salvage
abbrev pub net_build : CostData → ℕ → List ℕ → List ℕ → ℕ
net_build c year before after = build c year before after - salvage c year before after + stock c year before after

-- for each number of units of a candidate their salvage
pub record AreUnitSalvages (h : Horizon) (p : ThermalCost) (row : List ℕ) : Type 0 where
  pub counts : length row ≡ p.greatest + 1
  pub each : (n : ℕ) → n ≤ p.greatest → slice_index row n ≡ item_salvage h (added_units p n)

-- one such row for each thermal candidate
pub record AreUnitRows (h : Horizon) (ps : List ThermalCost) (rows : List (List ℕ)) : Type 0 where
  pub plants : length rows ≡ length ps
  pub each : (k : ℕ) (d : ThermalCost) → k < length ps → AreUnitSalvages h (slice_index_or ps k d) (slice_index_or rows k [])

-- the sums over a group's first candidate projects
pub record IsProjectSum (h : Horizon) (g : GroupCost) (n : ℕ) (t : Totals) : Type 0 where
  pub adds : Adds h nothing (added_projects g 0 n) t
  pub within : IsWithin h t
  pub mw : t.mw ≤ 300000

pub record AreProjectSums (h : Horizon) (g : GroupCost) (row : List Totals) : Type 0 where
  pub counts : length row ≡ g.greatest + 1
  pub each : (n : ℕ) → n ≤ g.greatest → IsProjectSum h g n (slice_index_or row n nothing)

pub record AreProjectRows (h : Horizon) (gs : List GroupCost) (rows : List (List Totals)) : Type 0 where
  pub groups : length rows ≡ length gs
  pub each : (k : ℕ) (d : GroupCost) → k < length gs → AreProjectSums h (slice_index_or gs k d) (slice_index_or rows k [])

-- the tables are those of their year
pub record IsStepTable (c : CostData) (t : StepTable) : Type 0 where
  pub first : 1 ≤ t.year
  pub last : t.year ≤ c.years
  pub sees : t.horizon ≡ horizon c t.year
  pub worth : t.worth ≡ end_factor c.rates.domestic (t.year - 1)
  pub abroad : t.abroad ≡ end_factor c.rates.foreign (t.year - 1)
  pub units : AreUnitRows t.horizon c.thermal t.units
  pub projects : AreProjectRows t.horizon c.groups t.projects

-- the salvage of the units that are added
abbrev pub units_salvage_of : Horizon → CostData → List ℕ → List ℕ → ℕ
units_salvage_of h c before after = sum_by (item_salvage h) (map (λ s. added_units s.0 (s.1.1 - s.1.0)) (thermal_steps c before after))

-- the salvage of the projects that are added
abbrev pub projects_salvage : CostData → ℕ → List ℕ → List ℕ → ℕ
projects_salvage c year before after = sum_by (item_salvage (horizon c year)) (flat_map (λ s. added_projects s.0 s.1.0 s.1.1) (group_steps c before after))

-- the sums of a configuration are those of its additions from nothing in a year
pub record IsStanding (c : CostData) (year : ℕ) (s : Standing) : Type 0 where
  pub fits : Fits c s.config
  pub domestic : s.domestic ≡ sum_by domestic (items c (nothing_built c) s.config)
  pub foreign : s.foreign ≡ sum_by foreign (items c (nothing_built c) s.config)
  pub inventory : s.inventory ≡ sum_by inventory (items c (nothing_built c) s.config)
  pub projects : s.projects ≡ projects_salvage c year (nothing_built c) s.config
  pub net : s.net ≡ net_build c year (nothing_built c) s.config
  pub most : s.domestic ≤ 2000000000000000
  pub most_abroad : s.foreign ≤ 2000000000000000
  pub most_stock : s.inventory ≤ 400000000000000
  pub most_net : s.net ≤ 10000000000000000
