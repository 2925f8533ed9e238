-- The installed capacity of a configuration in a period: the full capacity of all thermal units, existing
-- and candidate, and the base and peak blocks of each hydro group's installed projects under the first
-- hydro condition. After the IAEA's Computer Manual Series No. 16; that the first condition counts, whatever
-- its weight, is this program's own.
use Rattle.std.specs.Prelude.{ℕ, ◌+◌, ◌*◌, List, [], length, map, sum, sum_by, drop, slice_index_or}
use Rattle.std.specs.List.{range_with_len, zip}
use Rattle.plant_data.specs.declared.water.Group.{Group}
use Rattle.plant_data.specs.declared.water.Water.{Water}
use Rattle.year_system.specs.System.{System, full_mw}

-- no water, and no group: what is read past the last one
abbrev pub no_water : Water
no_water = record { base = 0; peak = 0; energy = 0 }

abbrev pub no_group : Group
no_group = record { number = 0; existing = 0; greatest = 0; water = [] }

-- the water of a project in a period under a condition, each counted from 0
abbrev pub water_at : System → Group → ℕ → ℕ → ℕ → Water
water_at s g project period condition =
    slice_index_or g.water ((project * length s.loads + period) * length s.weights + condition) no_water

-- the water of a group's first projects in a period under a condition
abbrev pub group_water : System → Group → ℕ → ℕ → ℕ → Water
group_water s g projects period condition =
    record {
      base = sum (map (λ j. (water_at s g j period condition).base) (range_with_len 0 projects));
      peak = sum (map (λ j. (water_at s g j period condition).peak) (range_with_len 0 projects));
      energy = sum (map (λ j. (water_at s g j period condition).energy) (range_with_len 0 projects));
    }

-- the base and peak blocks of a group with a count, under the first condition
abbrev pub group_mw : System → ℕ → Group → ℕ → ℕ
group_mw s period g count =
    (group_water s g (g.existing + count) period 0).base + (group_water s g (g.existing + count) period 0).peak

-- the capacity of the thermal candidates by their counts
abbrev pub candidate_mw : System → List ℕ → ℕ
candidate_mw s counts = sum_by (λ c. c.1 * c.0.full) (zip s.thermal counts)

-- the capacity of the hydro groups in a period
abbrev pub hydro_mw : System → List ℕ → ℕ → ℕ
hydro_mw s counts period = sum_by (λ g. group_mw s period g.0 g.1) (zip s.groups (drop (length s.thermal) counts))

-- the installed capacity of a configuration in a period, in MW
abbrev pub capacity : System → List ℕ → ℕ → ℕ
capacity s counts period = full_mw s.existing + candidate_mw s counts + hydro_mw s counts period
