-- The curve between two neighbouring points of a shape, over plain numbers.
use Rattle.std.proofs.Common.{◌≡◌, ℕ, ◌+◌, ◌-◌, ◌*◌, ◌/◌, ◌<◌, ◌≤◌, arith, ap, inl, inr}
use Rattle.std.proofs.Math.Nat.{mul-le-mul_left, mul-le-mul_right, div-le_of_le-mul}
use Rattle.std.proofs.lemmas.Bool.{cases_lt}
use Rattle.plant_data.specs.declared.shape.Point.{Point}
use Rattle.wasp_fixed.proofs.Floors.{div-le-div}
use Rattle.load_curves.specs.LoadCurve.{between}

-- two loads with one between them are apart
pub gap_of : (low high peak load : ℕ) → low * peak ≤ load → load < high * peak → (high - low) * peak ≡ high * peak - low * peak
gap_of low high peak load from to =
    elim (cases_lt low high) [
      | inl lt ↦
          let e : ℕ = high - low in
          let h : high ≡ low + e = omega arith in
          let m : high * peak ≡ (low + e) * peak = ap (λ n. n * peak) h in
          omega (arith, m)
      | inr le ↦ absurd (omega (arith, mul-le-mul_right peak le))
    ]

pub gap-positive : (low high peak load : ℕ) → low * peak ≤ load → load < high * peak → 0 < (high - low) * peak
gap-positive low high peak load from to = omega (arith, gap_of low high peak load from to)

-- no more falls than the whole
pub fall-le : (fall low high peak load : ℕ) → low * peak ≤ load → load < high * peak → fall * (load - low * peak) / ((high - low) * peak) ≤ fall
fall-le fall low high peak load from to =
    let part : load - low * peak ≤ (high - low) * peak = omega (arith, gap_of low high peak load from to) in
    let m : fall * (load - low * peak) ≤ fall * ((high - low) * peak) = mul-le-mul_left fall part in
    div-le_of_le-mul ((high - low) * peak) (omega (arith, m))

-- the curve is between the shares of the two points
pub between-low : (low high : Point) (peak load : ℕ) → between low high peak load ≤ low.share * 100000
between-low low high peak load = omega arith

pub between-high : (low high : Point) (peak load : ℕ) → high.share ≤ low.share → low.load * peak ≤ load → load < high.load * peak → high.share * 100000 ≤ between low high peak load
between-high low high peak load falls from to =
    let f = fall-le (low.share * 100000 - high.share * 100000) low.load high.load peak load from to in
    omega (arith, f)

-- a greater load has no greater share
pub between-falls : (low high : Point) (peak load more : ℕ) → low.load * peak ≤ load → load ≤ more → more < high.load * peak → between low high peak more ≤ between low high peak load
between-falls low high peak load more from le to =
    let fall : ℕ = low.share * 100000 - high.share * 100000 in
    let some : 0 < (high.load - low.load) * peak = gap-positive low.load high.load peak load from (omega arith) in
    let gap : ℕ = (high.load - low.load) * peak in
    let part : load - low.load * peak ≤ more - low.load * peak = omega arith in
    let d : fall * (load - low.load * peak) / gap ≤ fall * (more - low.load * peak) / gap = div-le-div _ _ gap some (mul-le-mul_left fall part) in
    omega (arith, d)
