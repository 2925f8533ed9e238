-- The maintenance of units over the periods of a year, and the availability that it leaves.
--
-- That units are placed by falling capacity, each where most is free, is the rule of the IAEA's Computer
-- Manual Series No. 16, module MERSIM. Free energy in place of free capacity, hours in place of whole
-- periods, what breaks ties and the floor are this program's own.
--
-- Periods have H hours each, and a unit is named by its place in the list of units.
use Rattle.std.specs.Prelude.{◌≡◌, ℕ, zero, suc, ◌≤◌, ◌+◌, ◌-◌, ◌*◌, ◌/◌, Bool, nat_lt, ◌&&◌, ◌||◌, ◌==◌, not, List, [], ◌∷◌, length, map, min, slice_index, slice_index_or, slice_set, if◌then◌else◌, All, sum_by}
use Rattle.std.specs.List.{range_with_len, zip, list_all, position_or_len}
use Rattle.plant_data.specs.declared.plant.Unit.{Unit as Machine}
use Rattle.wasp_fixed.specs.declared.numbers.TheConstants.{M}
use Rattle.loading_order.specs.declared.periods.Period.{Period}
use Rattle.loading_order.specs.declared.periods.TheConstants.{MAX_FULL}
use Rattle.plant_data.specs.Units.{no_unit}
use Rattle.loading_order.specs.LoadingOrder.{in_order}
use Rattle.std.specs.Cmp.Lexicographic.{slice_cmp}
use Rattle.std.specs.Ordering.{nat_cmp, is_lt}

-- the ranges of what a unit's maintenance is made of
pub record IsMaintained (u : Machine) : Type 0 where
  pub full : u.full ≤ MAX_FULL
  pub outage : u.outage ≤ M
  pub repair : u.repair ≤ 8760

-- the period past the last
abbrev pub no_period : Period
no_period = record { supply = 0; need = 0; hours = 0 }

-- the periods before any maintenance: free energy is (capacity - peak) * H, kept as a supply and a need
-- since it may be below 0
abbrev pub starting : ℕ → List ℕ → List ℕ → List Period
starting H capacities peaks = map (λ c. record { supply = c.0 * H; need = c.1 * H; hours = 0 }) (zip capacities peaks)

-- whether the unit has no hours in one period, and in the other it has some or there is less free energy
abbrev pub is_better : Period → Period → Bool
is_better one other = one.hours == 0 && (not (other.hours == 0) || nat_lt (other.supply + one.need) (one.supply + other.need))

-- the place of the period with the most free energy among those without hours of the unit, the earliest on a tie:
-- the first that no other is better than
abbrev pub most_free : List Period → ℕ
most_free periods = position_or_len (λ p. list_all (λ q. not (is_better q p)) periods) periods

-- the periods when the unit of `full` MW is out in the one at a place, which takes the energy off
abbrev pub with_hours : List Period → ℕ → ℕ → ℕ → List Period
with_hours periods at full part =
    let p = slice_index_or periods at no_period in
    slice_set periods at (record { supply = p.supply; need = p.need + full * part; hours = part })

-- the periods after the hours that are left went to the freest, at most H to each, and to at most n of them
abbrev pub place_hours : ℕ → ℕ → ℕ → ℕ → List Period → List Period
place_hours H full zero left periods = periods
place_hours H full (suc n) left periods =
    if left == 0 then periods else place_hours H full n (left - min left H) (with_hours periods (most_free periods) full (min left H))

-- the periods after a unit's repair hours were placed, where each period may be taken once
abbrev pub placed : ℕ → Machine → List Period → List Period
placed H u periods = place_hours H u.full (length periods) u.repair periods

-- a unit's repair hours are all placed, and no period has more than H, where all periods together have as many
abbrev pub HoursAddUp : Type 0
HoursAddUp = (H : ℕ) (u : Machine) (periods : List Period) → 1 ≤ H → All (λ p. p.hours ≡ 0) periods → u.repair ≤ length periods * H →
    (sum_by (λ p. p.hours) (placed H u periods) ≡ u.repair) × All (λ p. p.hours ≤ H) (placed H u periods)

-- the periods that a unit leaves to the next one: its energy stays off, and its hours are none of the next one's
abbrev pub open_again : List Period → List Period
open_again periods = map (λ p. record { supply = p.supply; need = p.need; hours = 0 }) periods

-- units take their turns by falling full capacity, then by plant and unit number
abbrev pub turn_key : Machine → List ℕ
turn_key u = (MAX_FULL - u.full) ∷ u.plant ∷ u.unit ∷ []

-- the units in the order of their turns
abbrev pub turns : List Machine → List ℕ
turns units = in_order (λ i j. is_lt (slice_cmp nat_cmp (turn_key (slice_index_or units i no_unit)) (turn_key (slice_index_or units j no_unit)))) (range_with_len 0 (length units))

-- the hours of a unit in each period, where these units take their turns in these periods
abbrev pub hours_at : ℕ → List Machine → List ℕ → List Period → ℕ → List ℕ
hours_at H units [] periods unit = []
hours_at H units (i ∷ later) periods unit =
    let after = placed H (slice_index_or units i no_unit) periods in
    if unit == i then map (λ p. p.hours) after else hours_at H units later (open_again after) unit

-- what is left of a unit that is out for some of the H hours, in parts of M
abbrev pub availability : ℕ → ℕ → ℕ → ℕ
availability outage out H = (M - outage) * (H - out) / H

-- the availability of a unit in a period
abbrev pub availability_of : ℕ → List Machine → List ℕ → List ℕ → ℕ → ℕ → ℕ
availability_of H units capacities peaks unit period =
    availability (slice_index_or units unit no_unit).outage (slice_index (hours_at H units (turns units) (starting H capacities peaks) unit) period) H
