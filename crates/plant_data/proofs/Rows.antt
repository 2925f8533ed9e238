-- Worked rows of the definitions.
use Rattle.std.proofs.Common.{◌≡◌, ℕ, ◌+◌, ◌<◌, ◌≤◌, List, [], ◌∷◌, map, refl, arith, zero, suc}
use Rattle.plant_data.specs.declared.plant.Plant.{Plant}
use Rattle.plant_data.specs.declared.plant.Unit.{Unit as Machine}
use Rattle.plant_data.specs.declared.shape.Point.{Point}
use Rattle.plant_data.specs.Shapes.{IsFaultless, load_at, share_at}
use Rattle.plant_data.specs.Units.{units_of}

abbrev plant : ℕ → ℕ → Plant
plant n count = record { number = n; units = count; least = 100; full = 100; heat = 2000; inc = 2000; domestic = 500; foreign = 0; variable = 0; outage = 1000; repair = 0 }

abbrev names : List Machine → List (ℕ × ℕ)
names units = map (λ u. (u.plant, u.unit)) units

-- two plants of one and two units, and a candidate with two of its three units
existing_first : names (units_of (plant 2 1 ∷ plant 9 2 ∷ []) (plant 41 3 ∷ []) (2 ∷ [])) ≡ (2, 1) ∷ (9, 1) ∷ (9, 2) ∷ (41, 1) ∷ (41, 2) ∷ []
existing_first = refl

-- the count of a hydro group adds no unit
hydro_has_no_units : names (units_of [] (plant 41 3 ∷ []) (0 ∷ 5 ∷ [])) ≡ []
hydro_has_no_units = refl

-- a load that stands at its peak all the time, and one that falls in a line
abbrev line : ℕ → List Point
line share = record { load = 0; share = 10000 } ∷ record { load = 10000; share = share } ∷ []

rises_in_line : (share i : ℕ) → i + 1 < 2 → load_at (line share) i < load_at (line share) (i + 1)
rises_in_line share zero h = omega arith
rises_in_line share (suc i) h = absurd (omega (arith, h))

falls_in_line : (share i : ℕ) → share ≤ 10000 → i + 1 < 2 → share_at (line share) (i + 1) ≤ share_at (line share) i
falls_in_line share zero l h = l
falls_in_line share (suc i) l h = absurd (omega (arith, h))

flat : IsFaultless (line 10000)
flat = record { first = refl; rises = rises_in_line 10000; falls = λ i h. falls_in_line 10000 i (omega arith) h; last = refl }

sloping : IsFaultless (line 0)
sloping = record { first = refl; rises = rises_in_line 0; falls = λ i h. falls_in_line 0 i (omega arith) h; last = refl }
