-- The configurations that are listed for a year: those in its tunnel whose installed capacity lies between
-- the margins in the critical period. After the module CONGEN of the IAEA's Computer Manual Series No. 16;
-- that the critical period alone is tested, and which it is, is this program's own.
use Rattle.std.specs.Prelude.{◌≡◌, ℕ, ◌+◌, ◌*◌, ◌<◌, ◌≤◌, ◌↔◌, List, [], length, slice_index, slice_index_or, Contains, EachIndex}
use Rattle.std.specs.Cmp.Lexicographic.{slice_cmp}
use Rattle.std.specs.List.Sorted.{IsStrictlySortedBy}
use Rattle.std.specs.Ordering.{nat_cmp}
use Rattle.plant_data.specs.declared.row.Margin.{Margin}
use Rattle.plant_data.specs.declared.row.Tunnel.{Tunnel}
use Rattle.plant_data.specs.declared.shape.Load.{Load}
use Rattle.year_system.specs.Capacity.{capacity}
use Rattle.year_system.specs.System.{System, size}

-- how many configurations a tunnel has: its box
abbrev pub box_size : Tunnel → ℕ
box_size t = size t.width

-- each count lies from the least to the least plus the width
pub record IsInTunnel (t : Tunnel) (counts : List ℕ) : Type 0 where
  pub width : length counts ≡ length t.least
  pub each : EachIndex counts (λ k. (slice_index t.least k ≤ slice_index counts k) × (slice_index counts k ≤ slice_index t.least k + slice_index t.width k))

-- what is read past the last load
abbrev pub no_load : Load
no_load = record { peak = 0; shape = [] }

-- the peak of a period, counted from 0, in MW
abbrev pub peak : System → ℕ → ℕ
peak s period = (slice_index_or s.loads period no_load).peak

-- the period with the least capacity above the peak, the earliest of these
pub record IsCritical (s : System) (counts : List ℕ) (period : ℕ) : Type 0 where
  pub within : period < length s.loads
  pub least : (p : ℕ) → p < length s.loads → capacity s counts period + peak s p ≤ capacity s counts p + peak s period
  pub earliest : (p : ℕ) → p < period → capacity s counts period + peak s p < capacity s counts p + peak s period

-- in the critical period the capacity lies between the margins, in ten-thousandths of the peak
pub record MeetsMargin (s : System) (m : Margin) (counts : List ℕ) : Type 0 where
  pub period : ℕ
  pub critical : IsCritical s counts period
  pub low : m.low * peak s period ≤ 10000 * capacity s counts period
  pub high : 10000 * capacity s counts period ≤ m.high * peak s period

pub record IsListed (s : System) (t : Tunnel) (m : Margin) (counts : List ℕ) : Type 0 where
  pub tunnel : IsInTunnel t counts
  pub margin : MeetsMargin s m counts

-- configurations in rising order, each before the next as lists of counts are
abbrev pub AreRising : List (List ℕ) → Type 0
AreRising configs = IsStrictlySortedBy (slice_cmp nat_cmp) configs

-- the listed configurations, each once, in rising order
pub record IsListing (s : System) (t : Tunnel) (m : Margin) (configs : List (List ℕ)) : Type 0 where
  pub rising : AreRising configs
  pub each : (counts : List ℕ) → Contains configs counts ↔ IsListed s t m counts

-- there is a listing of n configurations
pub record HasListing (s : System) (t : Tunnel) (m : Margin) (n : ℕ) : Type 0 where
  pub configs : List (List ℕ)
  pub listing : IsListing s t m configs
  pub many : length configs ≡ n

-- there is one listing at most
abbrev pub ListingsAreOne : Type 0
ListingsAreOne = (s : System) (t : Tunnel) (m : Margin) (one other : List (List ℕ)) →
    IsListing s t m one → IsListing s t m other → one ≡ other

-- a listing has no more configurations than the tunnel
abbrev pub ListingsFit : Type 0
ListingsFit = (s : System) (t : Tunnel) (m : Margin) (configs : List (List ℕ)) →
    length t.width ≡ length t.least → IsListing s t m configs → length configs ≤ box_size t
