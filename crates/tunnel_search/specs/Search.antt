-- Tunnels that move: by the marks of a chosen configuration each candidate's tunnel moves towards where the count
-- stands at an edge. After the way in which planners move the tunnels of WASP-IV by the signs + and - of its report
-- (IAEA Computer Manual Series No. 16); the rule for each mark is this program's own.
use Rattle.std.specs.Prelude.{◌≡◌, ℕ, zero, suc, ◌+◌, ◌-◌, Bool, true, false, All, EachIndex, List, [], codes, length, map, slice_index, slice_index_or}
use Rattle.std.specs.List.{range_with_len}
use Rattle.plant_data.specs.Tunnels.{IsTunnelOf}
use Rattle.plant_data.specs.declared.row.Tunnel.{Tunnel}
use Rattle.report_text.specs.Marks.{is_lower, is_upper, mark_at}
use Rattle.tunnel_configs.specs.Listed.{IsInTunnel}

-- the least count and the width of a candidate, by its mark: whether the count stands at the upper edge, and whether
-- at the lower
abbrev pub moved_pair : Bool → Bool → ℕ → ℕ → ℕ × ℕ
moved_pair true true least width = (least - 1, 2)
moved_pair true false least zero = (least, 1)
moved_pair true false least (suc width) = (least + 1, suc width)
moved_pair false true least zero = (least - 1, 1)
moved_pair false true least (suc width) = (least - 1, suc width)
moved_pair false false least width = (least, width)

-- that of the candidate at place k, counted from 0
abbrev pub moved_at : List ℕ → Tunnel → List ℕ → ℕ → ℕ × ℕ
moved_at greatest tunnel counts k =
    let least = slice_index tunnel.least k in
    let width = slice_index tunnel.width k in
    let count = slice_index counts k in
    moved_pair (is_upper least width (slice_index greatest k) count) (is_lower least count) least width

-- the tunnel of a year behind a round that chose a configuration
abbrev pub moved_tunnel : List ℕ → Tunnel → List ℕ → Tunnel
moved_tunnel greatest tunnel counts = record {
  least = map (λ k. (moved_at greatest tunnel counts k).0) (range_with_len 0 (length counts));
  width = map (λ k. (moved_at greatest tunnel counts k).1) (range_with_len 0 (length counts));
}

-- no count stands at an edge that may be moved: the mark of each candidate is a dot
abbrev pub IsInside : List ℕ → Tunnel → List ℕ → Type 0
IsInside greatest tunnel counts = EachIndex counts (λ k. mark_at greatest tunnel counts k ≡ codes ".")

-- ---- the tunnels of a round, one a year, with the configurations that it chose

-- those of a year, counted from 0
abbrev pub tunnel_of : List Tunnel → ℕ → Tunnel
tunnel_of tunnels k = slice_index_or tunnels k (record { least = []; width = [] })

abbrev pub config_of : List (List ℕ) → ℕ → List ℕ
config_of configs k = slice_index_or configs k []

-- each tunnel is one, and contains its configuration
pub record ArePlaced (greatest : List ℕ) (tunnels : List Tunnel) (configs : List (List ℕ)) : Type 0 where
  pub many : length configs ≡ length tunnels
  pub fit : All (IsTunnelOf greatest) tunnels
  pub within : EachIndex tunnels (λ k. IsInTunnel (tunnel_of tunnels k) (config_of configs k))

-- no chosen configuration has a mark
abbrev pub AreInside : List ℕ → List Tunnel → List (List ℕ) → Type 0
AreInside greatest tunnels configs =
    EachIndex tunnels (λ k. IsInside greatest (tunnel_of tunnels k) (config_of configs k))

-- the tunnels of the round behind it
abbrev pub moved_tunnels : List ℕ → List Tunnel → List (List ℕ) → List Tunnel
moved_tunnels greatest tunnels configs =
    map (λ k. moved_tunnel greatest (tunnel_of tunnels k) (config_of configs k)) (range_with_len 0 (length tunnels))
