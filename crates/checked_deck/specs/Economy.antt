-- What the costs of a deck's years depend on: rates, prices, plants, candidates and projects, and the demand
-- of each year. After FIXSYS, VARSYS and DYNPRO of the IAEA's Computer Manual Series No. 16; the demand as a
-- sum of cells is this program's own.
use Rattle.std.specs.Prelude.{ℕ, ◌+◌, ◌-◌, ◌*◌, ◌/◌, List, map, filter, sum}
use Rattle.std.specs.List.{range_with_len}
use Rattle.cost_terms.specs.declared.prices.CostData.{CostData}
use Rattle.cost_terms.specs.declared.prices.GroupCost.{GroupCost}
use Rattle.cost_terms.specs.declared.prices.PlantCost.{PlantCost}
use Rattle.cost_terms.specs.declared.prices.ProjectCost.{ProjectCost}
use Rattle.cost_terms.specs.declared.prices.Rates.{Rates}
use Rattle.cost_terms.specs.declared.prices.ShortagePrice.{ShortagePrice}
use Rattle.cost_terms.specs.declared.prices.ThermalCost.{ThermalCost}
use Rattle.deck_lines.specs.declared.head.Head.{Head}
use Rattle.deck_lines.specs.declared.head.Head.TheVariants as heads
use Rattle.load_curves.specs.LoadCurve.{load_curve}
use Rattle.plant_data.specs.declared.shape.Load.{Load}
use Rattle.wasp_fixed.specs.Curves.{area}
use Rattle.wasp_fixed.specs.declared.numbers.TheConstants.{ONE}
use Rattle.deck_check.specs.Readings.{Says, is_there, number, first, years, periods, version, step, weights, full, units_in, thermal_numbers, group_numbers, projects, load_in}

-- the existing plants, those with no unit in a year too
abbrev pub plant_numbers : Says → List ℕ
plant_numbers d = filter (λ p. is_there d (heads.Plant p)) (first 40)

abbrev pub plant_cost : Says → ℕ → PlantCost
plant_cost d p = record { full = full d p; fixed = number d (heads.Plant p) 6; units = map (units_in d p) (first (years d)) }

abbrev pub thermal_cost : Says → ℕ → ThermalCost
thermal_cost d k =
    record {
      greatest = number d (heads.Thermal k) 0;
      full = number d (heads.Thermal k) 2;
      fixed = number d (heads.Thermal k) 6;
      capdom = number d (heads.Thermal k) 10;
      capfor = number d (heads.Thermal k) 11;
      stock = number d (heads.Thermal k) 12;
      life = number d (heads.Thermal k) 13;
    }

abbrev pub project_cost : Says → ℕ → ℕ → ProjectCost
project_cost d g j =
    record {
      capacity = number d (heads.Project g j) 0;
      capdom = number d (heads.Project g j) 1;
      capfor = number d (heads.Project g j) 2;
      life = number d (heads.Project g j) 3;
    }

abbrev pub group_cost : Says → ℕ → GroupCost
group_cost d g =
    record {
      existing = number d (heads.Hydro g) 0;
      greatest = number d (heads.Hydro g) 1;
      fixed = number d (heads.Hydro g) 2;
      projects = map (project_cost d g) (first (projects d g));
    }

-- the energy under a load duration curve in so many hours, in MWh: the sum of all its cells
abbrev pub energy : ℕ → ℕ → Load → ℕ
energy step hours l = area (load_curve l.peak step l.shape) 0 ((l.peak + step - 1) / step) * step * hours / ONE

-- the demand of a year in MWh
abbrev pub demand : Says → ℕ → ℕ
demand d t = sum (map (λ i. energy (step d) (8760 / periods d) (load_in d t i)) (range_with_len 0 (periods d)))

-- a rate in each currency
abbrev pub rates : Says → Head → Rates
rates d h = record { domestic = number d h 0; foreign = number d h 1 }

abbrev pub shortage : Says → ShortagePrice
shortage d = record { plain = number d heads.Ens 0; linear = number d heads.EnsMore 0; square = number d heads.EnsMore 1 }

abbrev pub costs : Says → CostData
costs d =
    record {
      years = years d;
      version = version d;
      rates = rates d heads.Rate;
      escalation = rates d heads.Escalate;
      shortage = shortage d;
      weights = weights d;
      demand = map (demand d) (first (years d));
      plants = map (plant_cost d) (plant_numbers d);
      thermal = map (thermal_cost d) (thermal_numbers d);
      groups = map (group_cost d) (group_numbers d);
    }
