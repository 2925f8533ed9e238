-- Steps of filling a curve along the points of a shape.
use Rattle.std.proofs.Common.{◌≡◌, ℕ, ◌+◌, ◌-◌, ◌*◌, ◌/◌, ◌<◌, ◌≤◌, List, length, sym, ◌∙◌, arith, inl, inr}
use Rattle.std.specs.Int.{div_ceil}
use Rattle.std.proofs.Math.Nat.{mul-le-mul_right}
use Rattle.std.proofs.lemmas.List.{get_or_past}
use Rattle.std.proofs.lemmas.Bool.{cases_lt, le-ltb, lt-ltb}
use Rattle.wasp_fixed.specs.Curves.{cell}
use Rattle.wasp_fixed.specs.declared.numbers.TheConstants.{ONE}
use Rattle.plant_data.specs.declared.shape.Point.{Point}
use Rattle.plant_data.specs.Shapes.{IsFaultless, load_at, share_at}
use Rattle.load_curves.specs.LoadCurve.{between, load_curve, on_points}
use Rattle.load_curves.proofs.Ceilings.{ceiling-below, ceiling-div_ceil, ceiling-from, ceiling-le, ceiling-times}
use Rattle.load_curves.proofs.ShapePoints.{on_points-at, on_points-falls, on_points-le, point_at}

-- the cells up to a load, in code and in clauses
pub end_of : (load step end : ℕ) → 1 ≤ step → end ≡ div_ceil load (step * 10000) → end ≡ (load + step * 10000 - 1) / (step * 10000)
end_of load step end one e = e ∙ ceiling-div_ceil load (step * 10000) (omega arith)

pub below_end : (load step end x : ℕ) → 1 ≤ step → end ≡ div_ceil load (step * 10000) → x < end → x * step * 10000 < load
below_end load step end x one e lt =
    let b : x * (step * 10000) < load = ceiling-below load (step * 10000) x (omega arith) (omega (arith, end_of load step end one e)) in
    omega (arith, b)

-- a load in ten-thousandths of a MW is below the peak
below_peak : (peak step x part : ℕ) → part ≤ 10000 → x * step * 10000 < part * peak → x * step < peak
below_peak peak step x part most lt = omega (arith, mul-le-mul_right peak most)

-- the curve at a cell whose load is between the point before and this one
pub load_curve-at : (points : List Point) (peak step x i : ℕ) → IsFaultless points → 1 ≤ i → i < length points → load_at points i ≤ 10000 → load_at points (i - 1) * peak ≤ x * step * 10000 → x * step * 10000 < load_at points i * peak → between (point_at points (i - 1)) (point_at points i) peak (x * step * 10000) ≡ load_curve peak step points x
load_curve-at points peak step x i faultless one within most from to =
    let e : i - 1 + 1 ≡ i = omega arith in
    let to_next : x * step * 10000 < load_at points (i - 1 + 1) * peak = rw e to in
    let v = on_points-at points (i - 1) peak (x * step * 10000) faultless.rises (omega arith) from to_next in
    rw (lt-ltb (x * step) peak (below_peak peak step x (load_at points i) most to)) (sym (rw e at v))

-- the cells up to this point, from those up to the point before
pub filled_more : (points : List Point) (peak step i : ℕ) (old new : List ℕ) → IsFaultless points → 1 ≤ step → 1 ≤ i → i < length points → length old ≡ (load_at points (i - 1) * peak + step * 10000 - 1) / (step * 10000) → length new ≡ (load_at points i * peak + step * 10000 - 1) / (step * 10000) → ((k : ℕ) → k < length old → cell old k ≡ on_points points peak (k * step * 10000)) → ((k : ℕ) → k < length old → cell new k ≡ cell old k) → ((k : ℕ) → length old ≤ k → k < length new → cell new k ≡ between (point_at points (i - 1)) (point_at points i) peak (k * step * 10000)) → (k : ℕ) → k < length new → cell new k ≡ on_points points peak (k * step * 10000)
filled_more points peak step i old new faultless one some within old_len new_len value kept added k lt =
    elim (cases_lt k (length old)) [
      | inl before ↦ kept k before ∙ value k before
      | inr after ↦
          let e : i - 1 + 1 ≡ i = omega arith in
          let low : load_at points (i - 1) * peak ≤ k * (step * 10000) = ceiling-from (load_at points (i - 1) * peak) (step * 10000) k (omega arith) (omega (arith, old_len)) in
          let high : k * (step * 10000) < load_at points i * peak = ceiling-below (load_at points i * peak) (step * 10000) k (omega arith) (omega (arith, new_len)) in
          let from : load_at points (i - 1) * peak ≤ k * step * 10000 = omega (arith, low) in
          let to : k * step * 10000 < load_at points i * peak = omega (arith, high) in
          let to_next : k * step * 10000 < load_at points (i - 1 + 1) * peak = rw e to in
          let v = on_points-at points (i - 1) peak (k * step * 10000) faultless.rises (omega arith) from to_next in
          added k after lt ∙ sym (rw e at v)
    ]

-- the cells up to the last point are those up to the peak
pub cells_of_peak : (points : List Point) (peak step n : ℕ) → IsFaultless points → 1 ≤ step → n ≡ length points → (load_at points (n - 1) * peak + step * 10000 - 1) / (step * 10000) ≡ (peak + step - 1) / step
cells_of_peak points peak step n faultless one is =
    let l : load_at points (n - 1) ≡ 10000 = rw is faultless.last in
    let e : load_at points (n - 1) * peak ≡ peak * 10000 = rw l (omega arith) in
    rw e (ceiling-times peak step 10000 one (omega arith))

-- all cells, at every x
pub filled_whole : (points : List Point) (peak step : ℕ) (cells : List ℕ) → 1 ≤ step → length cells ≡ (peak + step - 1) / step → ((k : ℕ) → k < length cells → cell cells k ≡ on_points points peak (k * step * 10000)) → (x : ℕ) → cell cells x ≡ load_curve peak step points x
filled_whole points peak step cells one len value x =
    elim (cases_lt x (length cells)) [
      | inl lt ↦
          let b : x * step < peak = ceiling-below peak step x one (omega (arith, len)) in
          rw (lt-ltb (x * step) peak b) (value x lt)
      | inr past ↦
          let b : peak ≤ x * step = ceiling-from peak step x one (omega (arith, len)) in
          rw (le-ltb (x * step) peak b) (get_or_past cells x 0 past)
    ]

pub load_curve-falls : (points : List Point) (peak step x y : ℕ) → IsFaultless points → x ≤ y → load_curve peak step points y ≤ load_curve peak step points x
load_curve-falls points peak step x y faultless le =
    let far : x * step ≤ y * step = mul-le-mul_right step le in
    elim (cases_lt (y * step) peak) [
      | inl both ↦
          let near : x * step < peak = omega arith in
          let from : load_at points 0 * peak ≤ x * step * 10000 = rw faultless.first (omega arith) in
          rw (lt-ltb (x * step) peak near, lt-ltb (y * step) peak both) (on_points-falls points peak (x * step * 10000) (y * step * 10000) faultless.rises faultless.falls from (omega arith))
      | inr past ↦ rw (le-ltb (y * step) peak past) (omega arith)
    ]

pub load_curve-most : (points : List Point) (peak step x : ℕ) → IsFaultless points → share_at points 0 ≤ 10000 → load_curve peak step points x ≤ ONE
load_curve-most points peak step x faultless most =
    elim (cases_lt (x * step) peak) [
      | inl lt ↦
          rw (lt-ltb (x * step) peak lt) (omega (arith, on_points-le points peak (x * step * 10000) faultless.falls, most))
      | inr past ↦ rw (le-ltb (x * step) peak past) (omega arith)
    ]

-- the cells up to a point are no more than those up to a later one
pub ends_rise : (low high peak step : ℕ) → 1 ≤ step → low ≤ high → (low * peak + step * 10000 - 1) / (step * 10000) ≤ (high * peak + step * 10000 - 1) / (step * 10000)
ends_rise low high peak step one le =
    ceiling-le (low * peak) (high * peak) (step * 10000) (omega arith) (mul-le-mul_right peak le)
