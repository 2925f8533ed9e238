-- The curve through the points of a faultless shape.
use Rattle.std.proofs.Common.{◌≡◌, ℕ, ◌+◌, ◌*◌, ◌<◌, ◌≤◌, List, [], ◌∷◌, length, slice_index_or, zero, suc, Bool, true, false, if◌then◌else◌, refl, arith, inl, inr}
use Rattle.std.proofs.Math.Nat.{mul-le-mul_right, le_refl}
use Rattle.std.specs.List.{All}
use Rattle.std.proofs.lemmas.List.Elements.{All-get_or}
use Rattle.std.proofs.lemmas.Bool.{cases_lt, le-leb, lt-ltb, le-ltb}
use Rattle.plant_data.specs.declared.shape.Point.{Point}
use Rattle.plant_data.specs.Shapes.{IsInRange, load_at, no_point, share_at}
use Rattle.load_curves.specs.LoadCurve.{between, on_points}
use Rattle.load_curves.proofs.Neighbours.{between-low, between-high, between-falls}

abbrev pub Rises : List Point → Type 0
Rises points = (i : ℕ) → i + 1 < length points → load_at points i < load_at points (i + 1)

abbrev pub Falls : List Point → Type 0
Falls points = (i : ℕ) → i + 1 < length points → share_at points (i + 1) ≤ share_at points i

abbrev pub point_at : List Point → ℕ → Point
point_at points i = slice_index_or points i no_point

Rises-tail : (point : Point) (points : List Point) → Rises (point ∷ points) → Rises points
Rises-tail point points rises i h =
    let e : suc i + 1 ≡ suc (i + 1) = omega arith in
    rw e at (rises (suc i) (omega arith))

Falls-tail : (point : Point) (points : List Point) → Falls (point ∷ points) → Falls points
Falls-tail point points falls i h =
    let e : suc i + 1 ≡ suc (i + 1) = omega arith in
    rw e at (falls (suc i) (omega arith))

-- no load is below the first
Rises-first : (points : List Point) (i : ℕ) → Rises points → i < length points → load_at points 0 ≤ load_at points i
Rises-first points zero rises h = le_refl (load_at points 0)
Rises-first points (suc i) rises h =
    let e : i + 1 ≡ suc i = omega arith in
    let here : load_at points i < load_at points (suc i) = rw e at (rises i (omega arith)) in
    omega (arith, Rises-first points i rises (omega arith), here)

-- at a load between two neighbours
pub on_points-at : (points : List Point) (i peak load : ℕ) → Rises points → i + 1 < length points → load_at points i * peak ≤ load → load < load_at points (i + 1) * peak → on_points points peak load ≡ between (point_at points i) (point_at points (i + 1)) peak load
on_points-at [] i peak load rises h from to = absurd (omega arith)
on_points-at (low ∷ []) i peak load rises h from to = absurd (omega arith)
on_points-at (low ∷ high ∷ points) zero peak load rises h from to =
    rw (le-leb (low.load * peak) load from, lt-ltb load (high.load * peak) to) refl
on_points-at (low ∷ high ∷ points) (suc i) peak load rises h from to =
    let e : suc i + 1 ≡ suc (i + 1) = omega arith in
    let rest = Rises-tail low (high ∷ points) rises in
    let first : high.load ≤ load_at (high ∷ points) i = Rises-first (high ∷ points) i rest (omega arith) in
    let second : low.load ≤ load_at (high ∷ points) i = Rises-first (low ∷ high ∷ points) (suc i) rises (omega arith) in
    let past : high.load * peak ≤ load = omega (arith, mul-le-mul_right peak first, from) in
    let past_low : low.load * peak ≤ load = omega (arith, mul-le-mul_right peak second, from) in
    let below : load < load_at (high ∷ points) (i + 1) * peak = rw e at to in
    rw (le-leb (low.load * peak) load past_low, le-ltb load (high.load * peak) past, e) (on_points-at (high ∷ points) i peak load rest (omega arith) from below)

choice-le : (t : Bool) (a b c : ℕ) → a ≤ c → b ≤ c → (if t then a else b) ≤ c
choice-le true a b c h i = h
choice-le false a b c h i = i

-- no share is above the first
pub on_points-le : (points : List Point) (peak load : ℕ) → Falls points → on_points points peak load ≤ share_at points 0 * 100000
on_points-le [] peak load falls = omega arith
on_points-le (low ∷ []) peak load falls = omega arith
on_points-le (low ∷ high ∷ points) peak load falls =
    let rest = on_points-le (high ∷ points) peak load (Falls-tail low (high ∷ points) falls) in
    let here : high.share ≤ low.share = falls 0 (omega arith) in
    choice-le _ (between low high peak load) (on_points (high ∷ points) peak load) (low.share * 100000) (between-low low high peak load) (omega (arith, rest, here))

-- a greater load has no greater share
pub on_points-falls : (points : List Point) (peak load more : ℕ) → Rises points → Falls points → load_at points 0 * peak ≤ load → load ≤ more → on_points points peak more ≤ on_points points peak load
on_points-falls [] peak load more rises falls from le = omega arith
on_points-falls (low ∷ []) peak load more rises falls from le = omega arith
on_points-falls (low ∷ high ∷ points) peak load more rises falls from le =
    let rest_rises = Rises-tail low (high ∷ points) rises in
    let rest_falls = Falls-tail low (high ∷ points) falls in
    let at_low : low.load * peak ≤ more = omega (arith, from) in
    let here : high.share ≤ low.share = falls 0 (omega arith) in
    elim (cases_lt load (high.load * peak)) [
      | inl first ↦ elim (cases_lt more (high.load * peak)) [
        | inl both ↦
            rw (le-leb (low.load * peak) load from, le-leb (low.load * peak) more at_low, lt-ltb load (high.load * peak) first, lt-ltb more (high.load * peak) both) (between-falls low high peak load more from le both)
        | inr apart ↦
            let up = between-high low high peak load here from first in
            let down = on_points-le (high ∷ points) peak more rest_falls in
            rw (le-leb (low.load * peak) load from, le-leb (low.load * peak) more at_low, lt-ltb load (high.load * peak) first, le-ltb more (high.load * peak) apart) (omega (arith, up, down))
      ]
      | inr past ↦
          let past_too : high.load * peak ≤ more = omega arith in
          rw (le-leb (low.load * peak) load from, le-leb (low.load * peak) more at_low, le-ltb load (high.load * peak) past, le-ltb more (high.load * peak) past_too) (on_points-falls (high ∷ points) peak load more rest_rises rest_falls past le)
    ]

-- the points of a shape are in their range
pub load-most : (points : List Point) (i : ℕ) → All IsInRange points → i < length points → load_at points i ≤ 10000
load-most points i range h = (All-get_or IsInRange points i no_point h range).0

pub share-most : (points : List Point) (i : ℕ) → All IsInRange points → i < length points → share_at points i ≤ 10000
share-most points i range h = (All-get_or IsInRange points i no_point h range).1
