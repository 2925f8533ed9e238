-- Worked rows of the definitions.
use Rattle.std.proofs.Common.{◌≡◌, ℕ, ◌^◌, ◌*◌, ◌+◌, [], ◌∷◌, replicate, ◌++◌, refl, true}
use Rattle.plant_data.specs.declared.plant.Plant.{Plant}
use Rattle.plant_data.specs.declared.plant.Rule.TheVariants.{Merit}
use Rattle.plant_data.specs.declared.shape.Load.{Load}
use Rattle.plant_data.specs.declared.water.Group.{Group}
use Rattle.year_system.specs.Capacity.{capacity}
use Rattle.year_system.specs.Code.{code_of, index_of}
use Rattle.year_system.specs.System.{System, cells, greatest, size, unit_limit}
use Rattle.year_system.proofs.Literals.{is_system}

abbrev plant : ℕ → ℕ → Plant
plant n count = record { number = n; units = count; least = 100; full = 100; heat = 2000; inc = 2000; domestic = 500; foreign = 0; variable = 0; outage = 1000; repair = 0 }

abbrev flat : ℕ → Load
flat mw = record { peak = mw; shape = record { load = 0; share = 10000 } ∷ record { load = 10000; share = 10000 } ∷ [] }

-- one project stands and two can be built; the first condition has the greater blocks in the third project
abbrev river : Group
river = record {
  number = 2;
  existing = 1;
  greatest = 2;
  water = record { base = 10; peak = 20; energy = 5 } ∷ record { base = 20; peak = 30; energy = 3 }
      ∷ record { base = 30; peak = 0; energy = 5 } ∷ record { base = 40; peak = 50; energy = 3 }
      ∷ record { base = 200; peak = 100; energy = 5 } ∷ record { base = 20; peak = 10; energy = 3 } ∷ [];
}

-- a year with one period, two conditions, a plant of two units, a candidate and a group
abbrev year : System
year = record { rule = Merit; loads = flat 305 ∷ []; weights = 0 ∷ 10000 ∷ []; existing = plant 7 2 ∷ []; thermal = plant 41 3 ∷ []; groups = river ∷ []; step = 10 }

a_year_is_a_system : is_system year ≡ true
a_year_is_a_system = refl

-- 305 MW take 31 cells of 10 MW, five units of 100 MW take 50
cells_of_a_year : cells year ≡ 81
cells_of_a_year = refl

units_of_a_year : unit_limit year ≡ 5
units_of_a_year = refl

-- 200 + 1 * 100 + (10 + 20) + (30 + 0), the water of the first condition
capacity_of_a_count : capacity year (1 ∷ 1 ∷ []) 0 ≡ 360
capacity_of_a_count = refl

-- the index of (2, 1) among 4 * 3 configurations, and its code as the third system of a book
index_of_a_count : index_of (greatest year) (2 ∷ 1 ∷ []) ≡ 7
index_of_a_count = refl

code_of_a_key : code_of 2 year (2 ∷ 1 ∷ []) ≡ 2 ^ 51 + 8
code_of_a_key = refl

-- 12^8 * 11^4 * 16 * 10 configurations, below 2^50
greatest_product : size (replicate 8 11 ++ replicate 4 10 ++ 15 ∷ 9 ∷ []) ≡ 12 ^ 8 * 11 ^ 4 * 160
greatest_product = refl
