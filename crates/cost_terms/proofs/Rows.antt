-- Worked rows of the costs.
use Rattle.std.proofs.Common.{◌≡◌, ℕ, ◌*◌, ◌-◌, [], ◌∷◌, replicate, refl}
use Rattle.plant_data.specs.declared.row.Row.{Row}
use Rattle.wasp_fixed.specs.Discounts.{end_factor, half_year, root_of}
use Rattle.cost_terms.specs.Cost.{build, escalated, salvage, shortage_cost, step_cost, stock, unserved, upkeep}
use Rattle.cost_terms.specs.CostData.{greatest}
use Rattle.cost_terms.specs.Table.{plan_cost}
use Rattle.cost_terms.specs.declared.prices.CostData.{CostData}

-- three gas units of 100 MW for a load of 100 MW that stands all the time, at ten percent
abbrev gas : ℕ → ℕ → ℕ → ℕ → CostData
gas years version dearer linear =
    record {
      years = years;
      version = version;
      rates = record { domestic = 1000; foreign = 1000 };
      escalation = record { domestic = dearer; foreign = 0 };
      shortage = record { plain = 100000; linear = linear; square = 0 };
      weights = 10000 ∷ [];
      demand = replicate years 876000;
      plants = [];
      thermal = record { greatest = 3; full = 100; fixed = 0; capdom = 0; capfor = 500; stock = 0; life = 20 } ∷ [];
      groups = [];
    }

-- so many of the 876,000 MWh are not served; a MWh that is costs 10 dollars of fuel
abbrev served : ℕ → Row
served short =
    record {
      fuel_domestic = (876000 - short) * 1000000;
      fuel_foreign = 0;
      variable = 0;
      unserved = short;
      worst = 0;
      average = 0;
      short1 = short;
      short2 = 0;
      short3 = 0;
      short4 = 0;
      short5 = 0;
    }

-- 100,000,000 - 86,363,636 + 0 + 8,268,808 + 0 + 8,352,332
two_units : step_cost (gas 1 1 0 0) 1 (0 ∷ []) (2 ∷ []) (served 8760) ≡ 30257504
unfolding end_factor half_year root_of escalated
two_units = refl

-- a hundredth of the demand is not served, so each MWh costs 1,010 dollars in place of 1,000
dearer_shortages : unserved (gas 1 2 0 100000) 1 (served 8760) ≡ 8435855
unfolding end_factor half_year root_of escalated
dearer_shortages = refl

-- one unit in both years: 103,850,339 and 82,764,019
two_years : plan_cost (gas 2 1 0 0) (record { config = 1 ∷ []; row = served 87600 } ∷ record { config = 1 ∷ []; row = served 87600 } ∷ []) ≡ 186614358
unfolding end_factor half_year root_of escalated
two_years = refl

-- the same with fuel that costs 5 percent more in year 2
dearer_fuel : plan_cost (gas 2 2 500 0) (record { config = 1 ∷ []; row = served 87600 } ∷ record { config = 1 ∷ []; row = served 87600 } ∷ []) ≡ 186956044
unfolding end_factor half_year root_of escalated
dearer_fuel = refl

-- where nothing is wanted the price is the plain one
no_demand : shortage_cost (record { plain = 7; linear = 11; square = 13 }) 0 5 ≡ 35
no_demand = refl

-- half of the demand: 7 + 11 / 2 + 13 / 4 for each of 10 MWh, rounded down once
half_the_demand : shortage_cost (record { plain = 7; linear = 11; square = 13 }) 20 10 ≡ 157
half_the_demand = refl

-- two currencies; an existing plant that loses a unit; a candidate, and one whose life ends before the horizon;
-- a hydro group with one standing project and two to be built
abbrev mixed : CostData
mixed =
    record {
      years = 3;
      version = 2;
      rates = record { domestic = 1000; foreign = 800 };
      escalation = record { domestic = 300; foreign = 200 };
      shortage = record { plain = 100000; linear = 200000; square = 300000 };
      weights = 6000 ∷ 4000 ∷ [];
      demand = 900000 ∷ 1000000 ∷ 0 ∷ [];
      plants = record { full = 120; fixed = 150; units = 2 ∷ 2 ∷ 1 ∷ [] } ∷ [];
      thermal = record { greatest = 4; full = 60; fixed = 100; capdom = 700; capfor = 900; stock = 30; life = 25 }
          ∷ record { greatest = 4; full = 90; fixed = 80; capdom = 0; capfor = 1100; stock = 7; life = 2 } ∷ [];
      groups = record {
        existing = 1;
        greatest = 2;
        fixed = 50;
        projects = record { capacity = 40; capdom = 1000; capfor = 300; life = 50 }
            ∷ record { capacity = 30; capdom = 1200; capfor = 0; life = 40 } ∷ record { capacity = 20; capdom = 1100; capfor = 500; life = 1 } ∷ [];
      } ∷ [];
    }

greatest_counts : greatest mixed ≡ 4 ∷ 4 ∷ 2 ∷ []
greatest_counts = refl

-- 60 MW, 90 MW and the projects of 30 and 20 MW: 100,000,000 domestic and 163,000,000 foreign dollars of year 2
all_kinds_are_built : build mixed 2 (1 ∷ 0 ∷ 0 ∷ []) (2 ∷ 1 ∷ 2 ∷ []) ≡ 241835016
unfolding end_factor
all_kinds_are_built = refl

-- of the lives of 25, 2, 40 and 1 years, 23, 0, 38 and 0 lie behind the horizon
what_outlives_the_horizon : salvage mixed 2 (1 ∷ 0 ∷ 0 ∷ []) (2 ∷ 1 ∷ 2 ∷ []) ≡ 94163355
unfolding end_factor
what_outlives_the_horizon = refl

stock_until_the_horizon : stock mixed 2 (1 ∷ 0 ∷ 0 ∷ []) (2 ∷ 1 ∷ 2 ∷ []) ≡ 383395
unfolding end_factor
stock_until_the_horizon = refl

-- 2 * 120 * 150 + 2 * 60 * 100 + 90 * 80 + (40 + 30 + 20) * 50 cents per kW and month
upkeep_of_all_kinds : upkeep mixed 2 (2 ∷ 1 ∷ 2 ∷ []) (served 0) ≡ 6209641
unfolding end_factor half_year root_of
upkeep_of_all_kinds = refl
