-- The shape of a load duration curve from hourly loads, and how far the curve is from them. LOADSY (IAEA
-- Computer Manual Series No. 16) takes load duration curves that were made outside it; the points, the
-- rounding and the error are this program's own.
use Rattle.std.specs.Prelude.{◌≡◌, ◌==◌, ℕ, ◌+◌, ◌-◌, ◌*◌, ◌/◌, ◌<◌, ◌≤◌, List, length, map, slice_index, nat_lt}
use Rattle.std.specs.List.{count_by, range_with_len}
use Rattle.wasp_fixed.specs.Curves.{area}
use Rattle.wasp_fixed.specs.declared.numbers.TheConstants.{ONE}
use Rattle.plant_data.specs.declared.shape.Point.{Point}
use Rattle.load_curves.specs.LoadCurve.{load_curve}
use Rattle.hourly_load.specs.declared.shape.Hourly.{Hourly}

-- the number of loads greater than x MW
abbrev pub above : List ℕ → ℕ → ℕ
above loads x = count_by (λ load. nat_lt x load) loads

-- the number of loads of exactly x MW
abbrev pub exactly : List ℕ → ℕ → ℕ
exactly loads x = count_by (λ load. load == x) loads

-- the greatest of the values of f at 0 to n - 1: none is greater, and one is met
pub record IsGreatest (f : ℕ → ℕ) (n greatest : ℕ) : Type 0 where
  pub bounds : (x : ℕ) → x < n → f x ≤ greatest
  pub place : ℕ
  pub within : place < n
  pub met : f place ≡ greatest

-- the load of point i out of so many, counted from 0, in ten-thousandths of the peak
abbrev pub part : ℕ → ℕ → ℕ
part points i = 10000 * i / (points - 1)

-- point i: the share of the hours, in ten-thousandths, in which the load is greater than the point's
abbrev pub point : List ℕ → ℕ → ℕ → ℕ → Point
point loads peak points i = record { load = part points i; share = 10000 * above loads (part points i * peak / 10000) / length loads }

abbrev pub points_of : List ℕ → ℕ → ℕ → List Point
points_of loads peak points = map (point loads peak points) (range_with_len 0 points)

-- how far two numbers are apart
abbrev pub distance : ℕ → ℕ → ℕ
distance a b = (a - b) + (b - a)

-- how far the curve through the points is at x MW from the share of the hours with a greater load, in parts of ONE
abbrev pub gap : List ℕ → ℕ → List Point → ℕ → ℕ
gap loads peak points x = distance (load_curve peak 1 points x * length loads) (ONE * above loads x) / length loads

-- the greatest load, the points, the sum over the megawatts below the peak of the loads above each, and the greatest gap
pub record IsHourly (loads : List ℕ) (points : ℕ) (h : Hourly) : Type 0 where
  pub peak : IsGreatest (slice_index loads) (length loads) h.peak
  pub shape : h.points ≡ points_of loads h.peak points
  pub sum : h.sum ≡ area (above loads) 0 h.peak
  pub error : IsGreatest (gap loads h.peak h.points) h.peak h.error

-- the loads and the number of points settle all of it
abbrev pub HourliesAreOne : Type 0
HourliesAreOne = (loads : List ℕ) (points : ℕ) (one other : Hourly) → IsHourly loads points one → IsHourly loads points other → one ≡ other
