-- The points of hourly loads have the form of a shape.
use Rattle.std.proofs.Common.{◌≡◌, ℕ, ◌+◌, ◌-◌, ◌*◌, ◌/◌, ◌<◌, ◌≤◌, List, length, subst, All, get_or, slice_index, nat_lt, inl, inr, sym, ap, ◌∙◌, arith}
use Rattle.std.proofs.Math.Nat.{mul-le-mul_left, mul-le-mul_right, div-mul-le_self, div-le_of_le-mul}
use Rattle.std.proofs.lemmas.List.Elements.{All-from_get_or, All-get_or}
use Rattle.std.proofs.lemmas.List.FromFn.{get_or-map-range_with_len, length-map-range_with_len}
use Rattle.std.proofs.lemmas.List.Sums.{count_by-le-length}
use Rattle.std.proofs.lemmas.Bool.{cases_lt}
use Rattle.std.proofs.lemmas.Nat.{le-div}
use Rattle.wasp_fixed.specs.Curves.{area}
use Rattle.wasp_fixed.proofs.Floors.{div-le-div}
use Rattle.plant_data.specs.declared.shape.Point.{Point}
use Rattle.plant_data.specs.Shapes.{IsFaultless, IsInRange, load_at, no_point, share_at}
use Rattle.hourly_load.specs.Hours.{above, gap, HourliesAreOne, IsGreatest, part, point, points_of}
use Rattle.hourly_load.proofs.Counting.{above-falls, above-past}

-- ---- the loads of the points

pub part-rises : (points i : ℕ) → 2 ≤ points → points ≤ 64 → part points i < part points (i + 1)
part-rises points i least most =
    let d : ℕ = points - 1 in
    let h : (10000 * i / d + 1) * d ≤ 10000 * (i + 1) = omega (arith, div-mul-le_self (10000 * i) d) in
    let l : 10000 * i / d + 1 ≤ 10000 * (i + 1) / d = le-div (10000 * i / d + 1) (10000 * (i + 1)) d (omega arith) h in
    omega (arith, l)

pub part-most : (points i : ℕ) → 2 ≤ points → i < points → part points i ≤ 10000
part-most points i least within =
    let le : i ≤ points - 1 = omega arith in
    let m : 10000 * i ≤ 10000 * (points - 1) = mul-le-mul_left 10000 le in
    div-le_of_le-mul (points - 1) (omega (arith, m))

pub part-last : (points : ℕ) → 2 ≤ points → part points (points - 1) ≡ 10000
part-last points least =
    let l : 10000 ≤ part points (points - 1) = le-div 10000 (10000 * (points - 1)) (points - 1) (omega arith) (omega arith) in
    omega (arith, l, part-most points (points - 1) least (omega arith))

part-first : (points : ℕ) → 2 ≤ points → part points 0 ≡ 0
part-first points least =
    let m : 10000 * 0 / (points - 1) ≤ 0 = div-le_of_le-mul (points - 1) (omega arith) in
    omega (arith, m)

part-le : (points i : ℕ) → 2 ≤ points → part points i ≤ part points (i + 1)
part-le points i least = div-le-div (10000 * i) (10000 * (i + 1)) (points - 1) (omega arith) (omega arith)

-- ---- their shares

share-most : (loads : List ℕ) (x : ℕ) → 10000 * above loads x / length loads ≤ 10000
share-most loads x =
    let few : above loads x ≤ length loads = count_by-le-length _ loads in
    let m : 10000 * above loads x ≤ 10000 * length loads = mul-le-mul_left 10000 few in
    div-le_of_le-mul (length loads) (omega (arith, m))

share-falls : (loads : List ℕ) (x y : ℕ) → 1 ≤ length loads → x ≤ y → 10000 * above loads y / length loads ≤ 10000 * above loads x / length loads
share-falls loads x y some le =
    div-le-div (10000 * above loads y) (10000 * above loads x) (length loads) some (mul-le-mul_left 10000 (above-falls loads x y le))

-- ---- the list

at_place : (loads : List ℕ) (peak points i : ℕ) → i < points → load_at (points_of loads peak points) i ≡ part points i
at_place loads peak points i lt = ap (λ (p : Point). p.load) (get_or-map-range_with_len (point loads peak points) 0 points i i no_point lt (omega arith))

share_in : (loads : List ℕ) (peak points i : ℕ) → i < points → share_at (points_of loads peak points) i ≡ 10000 * above loads (part points i * peak / 10000) / length loads
share_in loads peak points i lt = ap (λ (p : Point). p.share) (get_or-map-range_with_len (point loads peak points) 0 points i i no_point lt (omega arith))

pub points-length : (loads : List ℕ) (peak points : ℕ) → length (points_of loads peak points) ≡ points
points-length loads peak points = length-map-range_with_len (point loads peak points) 0 points

pub points-faultless : (loads : List ℕ) (peak points : ℕ) → 1 ≤ length loads → 2 ≤ points → points ≤ 64 → IsFaultless (points_of loads peak points)
points-faultless loads peak points some least most =
    let len = points-length loads peak points in
    record {
      first = at_place loads peak points 0 (omega arith) ∙ part-first points least;
      rises = λ i h.
          let lt : i + 1 < points = omega (arith, len) in
          omega (arith, at_place loads peak points i (omega arith), at_place loads peak points (i + 1) lt, part-rises points i least most);
      falls = λ i h.
          let lt : i + 1 < points = omega (arith, len) in
          let m : part points i * peak ≤ part points (i + 1) * peak = mul-le-mul_right peak (part-le points i least) in
          let far : part points i * peak / 10000 ≤ part points (i + 1) * peak / 10000 = div-le-div (part points i * peak) (part points (i + 1) * peak) 10000 (omega arith) m in
          let f = share-falls loads (part points i * peak / 10000) (part points (i + 1) * peak / 10000) some far in
          omega (arith, share_in loads peak points i (omega arith), share_in loads peak points (i + 1) lt, f);
      last = rw len (at_place loads peak points (points - 1) (omega arith) ∙ part-last points least);
    }

pub points-in_range : (loads : List ℕ) (peak points : ℕ) → 2 ≤ points → All IsInRange (points_of loads peak points)
points-in_range loads peak points least =
    let len = points-length loads peak points in
    All-from_get_or IsInRange (points_of loads peak points) no_point
    (λ i h.
    let lt : i < points = omega (arith, len) in
    (omega (arith, at_place loads peak points i lt, part-most points i least lt), omega (arith, share_in loads peak points i lt, share-most loads (part points i * peak / 10000))))

-- ---- the greatest load

pub loads-within : (loads : List ℕ) (peak : ℕ) → IsGreatest (slice_index loads) (length loads) peak → All (λ load. load ≤ peak) loads
loads-within loads peak g = All-from_get_or (λ load. load ≤ peak) loads 0 (λ i h. g.bounds i h)

pub peak-most : (loads : List ℕ) (peak most : ℕ) → IsGreatest (slice_index loads) (length loads) peak → All (λ load. load ≤ most) loads → peak ≤ most
peak-most loads peak most g all =
    let h : get_or loads g.place 0 ≤ most = All-get_or (λ load. load ≤ most) loads g.place 0 g.within all in
    let e : get_or loads g.place 0 ≡ peak = g.met in
    omega (arith, h, e)

pub peak-some : (loads : List ℕ) (peak : ℕ) → IsGreatest (slice_index loads) (length loads) peak → 1 ≤ above loads 0 → 1 ≤ peak
peak-some loads peak g some =
    elim (cases_lt 0 peak) [
      | inl lt ↦ lt
      | inr ge ↦ absurd (omega (arith, above-past loads peak 0 (loads-within loads peak g) ge))
    ]

pub loads-some : (loads : List ℕ) → 1 ≤ above loads 0 → 1 ≤ length loads
loads-some loads some = omega (arith, count_by-le-length (λ load. nat_lt 0 load) loads)

-- the greatest of the same values
pub greatest-same : (f g : ℕ → ℕ) (n m : ℕ) → ((x : ℕ) → f x ≡ g x) → IsGreatest f n m → IsGreatest g n m
greatest-same f g n m same is = record {
  bounds = λ x h. omega (arith, same x, is.bounds x h);
  place = is.place;
  within = is.within;
  met = sym (same is.place) ∙ is.met;
}

-- ---- all of it is one

greatest-one : (f : ℕ → ℕ) (n a b : ℕ) → IsGreatest f n a → IsGreatest f n b → a ≡ b
greatest-one f n a b one other = omega (arith, one.met, other.met, one.bounds other.place other.within, other.bounds one.place one.within)

pub one_hourly : HourliesAreOne
one_hourly loads points one other is has =
    let peak : one.peak ≡ other.peak = greatest-one (slice_index loads) (length loads) one.peak other.peak is.peak has.peak in
    let shape : one.points ≡ other.points = is.shape ∙ ap (λ (n : ℕ). points_of loads n points) peak ∙ sym has.shape in
    let sum : one.sum ≡ other.sum = is.sum ∙ ap (area (above loads) 0) peak ∙ sym has.sum in
    let met : IsGreatest (gap loads other.peak other.points) other.peak one.error =
    subst (λ (n : ℕ). IsGreatest (gap loads n other.points) n one.error) peak (subst (λ (ps : List Point). IsGreatest (gap loads one.peak ps) one.peak one.error) shape is.error) in
    let error : one.error ≡ other.error = greatest-one (gap loads other.peak other.points) other.peak one.error other.error met has.error in
    λ i. record { peak = peak i; points = shape i; sum = sum i; error = error i }
