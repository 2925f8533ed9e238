-- The deck of a seed, a number of years and a number of thermal candidates: the list of its statements.
-- The random numbers are drawn in the order of the statements, and in a statement in the order given here;
-- each stands at its place in the seed's random numbers. This program's own.
use Rattle.std.specs.Prelude.{ℕ, ◌+◌, ◌-◌, ◌*◌, ◌/◌, List, [], ◌∷◌, ◌++◌, map}
use Rattle.std.specs.List.{flat_map}
use Rattle.deck_lines.specs.declared.head.Head.{Head}
use Rattle.deck_lines.specs.declared.head.Head.TheVariants as heads
use Rattle.deck_lines.specs.declared.statement.Statement.{Statement}
use Rattle.deck_check.specs.Readings.{first}
use Rattle.deck_maker.specs.declared.stream.Machine.{Machine}
use Rattle.deck_maker.specs.Stream.{draw}

abbrev pub named : Head → List ℕ → List ℕ → Statement
named head name numbers = record { head = head; body = record { name = name; numbers = numbers } }

abbrev pub unnamed : Head → List ℕ → Statement
unnamed head numbers = named head [] numbers

-- ---- what stands in every trial deck

-- rates in hundredths of a percent, unserved energy in cents per MWh, two hydro conditions, one shape
abbrev pub frame : ℕ → List Statement
frame years =
    unnamed heads.Years (years ∷ [])
    ∷ unnamed heads.Periods (2 ∷ [])
    ∷ unnamed heads.Rate (1000 ∷ 800 ∷ [])
    ∷ unnamed heads.Ens (100_000 ∷ [])
    ∷ unnamed heads.Conditions (6000 ∷ 4000 ∷ [])
    ∷ unnamed (heads.Shape 1) (0 ∷ 10_000 ∷ 5000 ∷ 8000 ∷ 10_000 ∷ 500 ∷ [])
    ∷ []

-- no limit but the tunnel
abbrev pub limits : List Statement
limits = unnamed (heads.Margin 1 1) (0 ∷ 100_000 ∷ []) ∷ unnamed (heads.Lolp 1 1) (1_000_000_000 ∷ 1_000_000_000 ∷ []) ∷ []

-- ---- fuels: draws 0 and 1

-- one fuel is bought at home, and one abroad
abbrev pub fuels : ℕ → List Statement
fuels seed = unnamed (heads.Fuel 1) ((300 + draw seed 0 200) ∷ 0 ∷ []) ∷ unnamed (heads.Fuel 2) (0 ∷ (500 + draw seed 1 300) ∷ []) ∷ []

-- ---- units

-- what five draws behind so many others say of a unit of at least so many MW
abbrev pub machine : ℕ → ℕ → ℕ → Machine
machine seed drawn smallest = record {
  full = smallest + draw seed drawn 40;
  heat = 2400 + draw seed (drawn + 1) 400;
  fuel = 1 + draw seed (drawn + 2) 2;
  outage = 300 + draw seed (drawn + 3) 700;
  repair = 400 + draw seed (drawn + 4) 400;
}

-- units or greatest count, and the fields of the unit
abbrev pub machine_numbers : ℕ → Machine → List ℕ
machine_numbers units m = units ∷ (m.full / 2) ∷ m.full ∷ m.heat ∷ (m.heat - 200) ∷ m.fuel ∷ 100 ∷ 200 ∷ m.outage ∷ m.repair ∷ []

-- plants: 30 draws behind those of the fuels
abbrev pub plant_place : ℕ → ℕ
plant_place p = 2 + 5 * (p - 1)

-- existing plant p has one unit; its name is P and the number
abbrev pub plant : ℕ → ℕ → Statement
plant seed p = named (heads.Plant p) (80 ∷ (48 + p) ∷ []) (machine_numbers 1 (machine seed (plant_place p) 30))

-- thermal candidates: 6 draws for each behind those of the plants
abbrev pub thermal_place : ℕ → ℕ
thermal_place k = 32 + 6 * (k - 1)

-- dollars per kW, at home and abroad
abbrev pub price : ℕ → ℕ → ℕ
price seed k = 600 + draw seed (thermal_place k + 5) 900

-- thermal candidate k has at most 4 units; its name is T and the number
abbrev pub thermal : ℕ → ℕ → Statement
thermal seed k = named (heads.Thermal k) (84 ∷ (48 + k) ∷ []) (machine_numbers 4 (machine seed (thermal_place k) 40) ++ price seed k ∷ price seed k ∷ 10 ∷ 25 ∷ [])

-- ---- a river with one project, which stands: 4 draws behind those of the candidates

abbrev pub water_place : ℕ → ℕ → ℕ
water_place candidates m = 32 + 6 * candidates + 2 * (m - 1)

-- what the project gives in period m, in each of two conditions
abbrev pub water : ℕ → ℕ → ℕ → Statement
water seed candidates m =
    unnamed (heads.Water 1 1 m)
    (10 ∷ 20 ∷ (20_000 + draw seed (water_place candidates m) 20_000) ∷ 8 ∷ 20 ∷ (10_000 + draw seed (water_place candidates m + 1) 10_000) ∷ [])

abbrev pub river : ℕ → ℕ → List Statement
river seed candidates =
    named (heads.Hydro 1) (72 ∷ 89 ∷ 68 ∷ []) (1 ∷ 0 ∷ 50 ∷ [])
    ∷ unnamed (heads.Project 1 1) (40 ∷ 0 ∷ 0 ∷ 50 ∷ [])
    ∷ water seed candidates 1
    ∷ water seed candidates 2
    ∷ []

-- ---- years

-- loads: 2 draws for each year behind those of the river
abbrev pub load_place : ℕ → ℕ → ℕ
load_place candidates t = 36 + 6 * candidates + 2 * (t - 1)

-- the peak of a year whose draw is such, in MW
abbrev pub peak : ℕ → ℕ → ℕ
peak t drawn = 200 + 15 * (t - 1) + drawn

abbrev pub load : ℕ → ℕ → ℕ → Statement
load seed candidates t =
    unnamed (heads.Load t) (peak t (draw seed (load_place candidates t) 20) ∷ 1 ∷ peak t (draw seed (load_place candidates t + 1) 20) ∷ 1 ∷ [])

-- a least count and the width 1 for each thermal candidate
abbrev pub pairs : ℕ → ℕ → List ℕ
pairs least candidates = flat_map (λ k. least ∷ 1 ∷ []) (first candidates)

-- a year's tunnel: each candidate's least count rises by one in eight years, and the river stays
abbrev pub tunnel : ℕ → ℕ → Statement
tunnel candidates t = unnamed (heads.Tunnel 1 t) (pairs ((t - 1) / 8) candidates ++ 0 ∷ 0 ∷ [])

-- ---- the deck

unfoldable pub trial : ℕ → ℕ → ℕ → List Statement
trial seed years candidates =
    frame years
    ++ fuels seed
    ++ map (plant seed) (first 6)
    ++ map (thermal seed) (first candidates)
    ++ river seed candidates
    ++ map (load seed candidates) (first years)
    ++ limits
    ++ map (tunnel candidates) (first years)
