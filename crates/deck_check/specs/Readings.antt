-- What a deck says of each head, and what that means: years, periods, weights, the units of a plant with
-- additions and retirements, the candidates and their greatest counts, the loads, and what a year can take.
-- After FIXSYS and VARSYS of the IAEA's Computer Manual Series No. 16; the defaults are this program's own.
use Rattle.std.specs.Prelude.{ℕ, ◌+◌, ◌-◌, ◌*◌, ◌/◌, nat_le, Bool, not, List, [], ◌∷◌, ◌++◌, length, map, filter, sum, slice_index, Option, None, Some, is_some, if◌then◌else◌}
use Rattle.std.specs.List.{range_with_len}
use Rattle.deck_lines.specs.Body.{BodyParts}
use Rattle.deck_lines.specs.declared.head.Head.{Head}
use Rattle.deck_lines.specs.declared.head.Head.TheVariants as heads
use Rattle.plant_data.specs.declared.shape.Load.{Load}
use Rattle.plant_data.specs.declared.shape.Point.{Point}
use Rattle.year_system.specs.System.{greatest_peak}

-- a deck as a map from heads to bodies
abbrev pub Says : Type 0
Says = Head → Option BodyParts

abbrev pub is_there : Says → Head → Bool
is_there d h = is_some (d h)

abbrev pub is_absent : Says → Head → Bool
is_absent d h = not (is_there d h)

abbrev pub numbers_in : Option BodyParts → List ℕ
numbers_in None = []
numbers_in (Some body) = body.numbers

-- the numbers of a statement, none where it is absent
abbrev pub numbers : Says → Head → List ℕ
numbers d h = numbers_in (d h)

-- the number at a place of a statement, counted from 0, and 0 where there is none
abbrev pub number : Says → Head → ℕ → ℕ
number d h i = slice_index (numbers d h) i

-- the first number of a statement, or what stands for it where it is absent
abbrev pub number_or : Says → Head → ℕ → ℕ
number_or d h default = if is_there d h then number d h 0 else default

-- the numbers from 1 to n
unfoldable pub first : ℕ → List ℕ
first n = range_with_len 1 n

-- ---- single statements

abbrev pub years : Says → ℕ
years d = number d heads.Years 0

abbrev pub periods : Says → ℕ
periods d = number d heads.Periods 0

abbrev pub cases : Says → ℕ
cases d = number_or d heads.Cases 1

abbrev pub version : Says → ℕ
version d = number_or d heads.Version 1

-- the step of the grid in MW
abbrev pub step : Says → ℕ
step d = number_or d heads.Grid 1

-- the weights of the hydro conditions, in ten-thousandths
abbrev pub weights : Says → List ℕ
weights d = if is_there d heads.Conditions then numbers d heads.Conditions else 10_000 ∷ []

-- ---- plants: 1 to 40 are the PLANT statements, and 41 to 52 the thermal candidates

abbrev pub plant_head : ℕ → Head
plant_head a = if nat_le a 40 then heads.Plant a else heads.Thermal (a - 40)

abbrev pub least : Says → ℕ → ℕ
least d a = number d (plant_head a) 1

abbrev pub full : Says → ℕ → ℕ
full d a = number d (plant_head a) 2

abbrev pub fuel : Says → ℕ → ℕ
fuel d a = number d (plant_head a) 5

-- the units of a plant that stand or come up to a year, that year's included
abbrev pub come : Says → ℕ → ℕ → ℕ
come d p t = number d (heads.Plant p) 0 + sum (map (λ u. number d (heads.Add p u) 0) (first t))

-- the units of a plant that go up to a year, that year's included
abbrev pub gone : Says → ℕ → ℕ → ℕ
gone d p t = sum (map (λ u. number d (heads.Retire p u) 0) (first t))

-- the units of a plant in a year
abbrev pub units_in : Says → ℕ → ℕ → ℕ
units_in d p t = come d p t - gone d p t

-- ---- candidates

-- the numbers of the thermal candidates and of the hydro groups
abbrev pub thermal_numbers : Says → List ℕ
thermal_numbers d = filter (λ k. is_there d (heads.Thermal k)) (first 12)

abbrev pub group_numbers : Says → List ℕ
group_numbers d = filter (λ g. is_there d (heads.Hydro g)) (first 2)

-- the greatest counts of the candidates, thermal candidates first
abbrev pub greatest : Says → List ℕ
greatest d = map (λ k. number d (heads.Thermal k) 0) (thermal_numbers d) ++ map (λ g. number d (heads.Hydro g) 1) (group_numbers d)

abbrev pub width : Says → ℕ
width d = length (greatest d)

-- ---- hydro groups

-- the projects of a group, those that stand and those that can be built
abbrev pub projects : Says → ℕ → ℕ
projects d g = number d (heads.Hydro g) 0 + number d (heads.Hydro g) 1

-- ---- loads

-- point i of a SHAPE statement, counted from 0
abbrev pub point_in : List ℕ → ℕ → Point
point_in ns i = record { load = slice_index ns (2 * i); share = slice_index ns (2 * i + 1) }

abbrev pub points : Says → ℕ → List Point
points d s = map (point_in (numbers d (heads.Shape s))) (range_with_len 0 (length (numbers d (heads.Shape s)) / 2))

-- peak and shape of period i of a year, counted from 0
abbrev pub load_in : Says → ℕ → ℕ → Load
load_in d t i = record { peak = number d (heads.Load t) (2 * i); shape = points d (number d (heads.Load t) (2 * i + 1)) }

abbrev pub loads : Says → ℕ → List Load
loads d t = map (load_in d t) (range_with_len 0 (periods d))

-- ---- a year as a whole

-- the existing units of a year and the greatest counts of the thermal candidates
abbrev pub units : Says → ℕ → ℕ
units d t = sum (map (λ p. units_in d p t) (first 40)) + sum (map (λ k. number d (heads.Thermal k) 0) (first 12))

-- their full capacity in MW
abbrev pub capacity : Says → ℕ → ℕ
capacity d t = sum (map (λ p. units_in d p t * full d p) (first 40)) + sum (map (λ k. number d (heads.Thermal k) 0 * full d (40 + k)) (first 12))

-- the greatest peak of a year in MW
abbrev pub peak : Says → ℕ → ℕ
peak d t = greatest_peak (loads d t)
