-- When the points of a load duration curve are a shape: from no load on, with loads that rise, shares of
-- time that never rise, and the peak as the last load. After the normalised load duration curves of the
-- IAEA's Computer Manual Series No. 16, in ten-thousandths of the peak and of the time.
use Rattle.std.specs.Prelude.{◌≡◌, ℕ, ◌+◌, ◌-◌, ◌<◌, ◌≤◌, List, length, slice_index_or}
use Rattle.plant_data.specs.declared.shape.Point.{Point}

-- both parts of a point are at most one, in ten-thousandths
abbrev pub IsInRange : Point → Type 0
IsInRange p = (p.load ≤ 10000) × (p.share ≤ 10000)

-- what is read past the last point
abbrev pub no_point : Point
no_point = record { load = 0; share = 0 }

-- the load of the point at a place, counted from 0
abbrev pub load_at : List Point → ℕ → ℕ
load_at points i = (slice_index_or points i no_point).load

-- its share of the time
abbrev pub share_at : List Point → ℕ → ℕ
share_at points i = (slice_index_or points i no_point).share

-- no point has a fault
pub record IsFaultless (points : List Point) : Type 0 where
  pub first : load_at points 0 ≡ 0
  pub rises : (i : ℕ) → i + 1 < length points → load_at points i < load_at points (i + 1)
  pub falls : (i : ℕ) → i + 1 < length points → share_at points (i + 1) ≤ share_at points i
  pub last : load_at points (length points - 1) ≡ 10000
