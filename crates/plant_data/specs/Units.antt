-- The units of a year: those of the existing plants, then those of the candidates by their counts, each
-- plant's from 1 on. After the FIXSYS and VARSYS of the IAEA's Computer Manual Series No. 16.
use Rattle.std.specs.Prelude.{◌≡◌, ℕ, ◌<◌, List, ◌++◌, length, map, slice_index_or}
use Rattle.std.specs.List.{range_with_len, flat_map, zip}
use Rattle.std.specs.List.Sorted.{IsStrictlyIncreasing}
use Rattle.plant_data.specs.declared.plant.Plant.{Plant}
use Rattle.plant_data.specs.declared.plant.Unit.{Unit as Machine}

-- unit n of a plant
abbrev pub unit_of : Plant → ℕ → Machine
unit_of p n = record { plant = p.number; unit = n; least = p.least; full = p.full; heat = p.heat; inc = p.inc; domestic = p.domestic; foreign = p.foreign; variable = p.variable; outage = p.outage; repair = p.repair }

-- the first `count` units of a plant, from 1 on
abbrev pub plant_units : Plant → ℕ → List Machine
plant_units p count = map (unit_of p) (range_with_len 1 count)

-- the units of existing plants
abbrev pub existing_units : List Plant → List Machine
existing_units plants = flat_map (λ p. plant_units p p.units) plants

-- the units of candidates by their counts
abbrev pub candidate_units : List Plant → List ℕ → List Machine
candidate_units candidates counts = flat_map (λ c. plant_units c.0 c.1) (zip candidates counts)

-- the units of a year
abbrev pub units_of : List Plant → List Plant → List ℕ → List Machine
units_of existing candidates counts = existing_units existing ++ candidate_units candidates counts

-- the numbers of the existing plants and then of the candidates rise
abbrev pub HasRisingNumbers : List Plant → List Plant → Type 0
HasRisingNumbers existing candidates = IsStrictlyIncreasing (map (λ p. p.number) (existing ++ candidates))

-- what is read past the last unit
abbrev pub no_unit : Machine
no_unit = record { plant = 0; unit = 0; least = 0; full = 0; heat = 0; inc = 0; domestic = 0; foreign = 0; variable = 0; outage = 0; repair = 0 }

-- no two units have the same plant and unit number
abbrev pub HasDistinctUnits : List Machine → Type 0
HasDistinctUnits units = (i j : ℕ) → i < length units → j < length units →
    (slice_index_or units i no_unit).plant ≡ (slice_index_or units j no_unit).plant →
    (slice_index_or units i no_unit).unit ≡ (slice_index_or units j no_unit).unit → i ≡ j

-- the list of a year's units is without repeats where the plants' numbers rise
abbrev pub UnitsAreDistinct : Type 0
UnitsAreDistinct = (existing candidates : List Plant) (counts : List ℕ) →
    HasRisingNumbers existing candidates → HasDistinctUnits (units_of existing candidates counts)
