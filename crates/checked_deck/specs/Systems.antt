-- The physical system of a year, as a deck says it: the rule of loading, the loads, the existing plants with
-- their units of the year, the candidates at their greatest counts, the hydro groups with their water. After
-- FIXSYS and VARSYS of the IAEA's Computer Manual Series No. 16; the default of the rule is this program's own.
use Rattle.std.specs.Prelude.{ℕ, ◌+◌, ◌*◌, nat_lt, List, [], length, map, filter, slice_index, codes, Option, None, Some, if◌then◌else◌}
use Rattle.std.specs.List.{range_with_len, flat_map}
use Rattle.std.specs.Str.{bytes_eq}
use Rattle.deck_lines.specs.Body.{BodyParts}
use Rattle.deck_lines.specs.declared.head.Head.TheVariants as heads
use Rattle.plant_data.specs.declared.plant.Plant.{Plant}
use Rattle.plant_data.specs.declared.plant.Rule.{Rule}
use Rattle.plant_data.specs.declared.plant.Rule.TheVariants.{Merit, BaseFirst}
use Rattle.plant_data.specs.declared.water.Group.{Group}
use Rattle.plant_data.specs.declared.water.Water.{Water}
use Rattle.year_system.specs.System.{System}
use Rattle.deck_check.specs.Readings.{Says, numbers, number, first, periods, step, weights, plant_head, least, full, fuel, units_in, thermal_numbers, group_numbers, projects, loads}

-- the name of a statement, none where it is absent
abbrev pub name_in : Option BodyParts → List ℕ
name_in None = []
name_in (Some body) = body.name

-- the rule of loading, merit where the deck says nothing else
abbrev pub rule : Says → Rule
rule d = if bytes_eq (name_in (d heads.Rule)) (codes "BASE") then BaseFirst else Merit

-- ---- plants

-- the plant of a number, with so many units and the prices of its fuel
abbrev pub plant_of : Says → ℕ → ℕ → Plant
plant_of d a units =
    record {
      number = a;
      units = units;
      least = least d a;
      full = full d a;
      heat = number d (plant_head a) 3;
      inc = number d (plant_head a) 4;
      domestic = number d (heads.Fuel (fuel d a)) 0;
      foreign = number d (heads.Fuel (fuel d a)) 1;
      variable = number d (plant_head a) 7;
      outage = number d (plant_head a) 8;
      repair = number d (plant_head a) 9;
    }

-- the plants with at least one unit in a year
abbrev pub existing_in : Says → ℕ → List Plant
existing_in d t = filter (λ p. nat_lt 0 p.units) (map (λ p. plant_of d p (units_in d p t)) (first 40))

-- ---- candidates, whose units and projects are their greatest counts

abbrev pub thermal : Says → List Plant
thermal d = map (λ k. plant_of d (40 + k) (number d (heads.Thermal k) 0)) (thermal_numbers d)

-- ---- hydro groups

-- what stands in triple i of a WATER statement, counted from 0
abbrev pub water_in : List ℕ → ℕ → Water
water_in ns i = record { base = slice_index ns (3 * i); peak = slice_index ns (3 * i + 1); energy = slice_index ns (3 * i + 2) }

-- the water of a project in a period, under each condition
abbrev pub project_water : Says → ℕ → ℕ → ℕ → List Water
project_water d g j m = map (water_in (numbers d (heads.Water g j m))) (range_with_len 0 (length (weights d)))

-- by project, period and condition
abbrev pub group_water : Says → ℕ → List Water
group_water d g = flat_map (λ j. flat_map (project_water d g j) (first (periods d))) (first (projects d g))

abbrev pub group_of : Says → ℕ → Group
group_of d g = record { number = g; existing = number d (heads.Hydro g) 0; greatest = number d (heads.Hydro g) 1; water = group_water d g }

abbrev pub groups : Says → List Group
groups d = map (group_of d) (group_numbers d)

-- ---- a year as a whole

-- the physical system of a year
abbrev pub system : Says → ℕ → System
system d t =
    record {
      rule = rule d;
      loads = loads d t;
      weights = weights d;
      existing = existing_in d t;
      thermal = thermal d;
      groups = groups d;
      step = step d;
    }
