-- The load duration curve of a period, as LOADSY makes it from a peak and the points of a shape
-- (IAEA Computer Manual Series No. 16), straight between the points. The manual's own program keeps
-- Fourier series; the cells and their rounding are this program's own.
use Rattle.std.specs.Prelude.{ℕ, ◌-◌, ◌*◌, ◌/◌, ◌&&◌, nat_lt, nat_le, List, [], ◌∷◌, if◌then◌else◌}
use Rattle.plant_data.specs.declared.shape.Point.{Point}

-- the share of the time, in parts of ONE, at a load between two points; the load is in ten-thousandths of a MW
abbrev pub between : Point → Point → ℕ → ℕ → ℕ
between low high peak load =
    low.share * 100000 - (low.share * 100000 - high.share * 100000) * (load - low.load * peak) / ((high.load - low.load) * peak)

-- the share at a load, by the two neighbours that it lies between: at the first or above it, and below the second
abbrev pub on_points : List Point → ℕ → ℕ → ℕ
on_points [] peak load = 0
on_points (low ∷ []) peak load = 0
on_points (low ∷ high ∷ points) peak load =
    if nat_le (low.load * peak) load && nat_lt load (high.load * peak) then between low high peak load else on_points (high ∷ points) peak load

-- the curve at cell x of `step` MW: that of the points below the peak, and 0 from the peak on
abbrev pub load_curve : ℕ → ℕ → List Point → ℕ → ℕ
load_curve peak step points x = if nat_lt (x * step) peak then on_points points peak (x * step * 10000) else 0
