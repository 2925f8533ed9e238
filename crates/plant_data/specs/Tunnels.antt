-- When a tunnel is one for candidates with these greatest counts. After the tunnels of CONGEN in the IAEA's
-- Computer Manual Series No. 16; that counts are cumulative is this program's own.
use Rattle.std.specs.Prelude.{◌≡◌, ℕ, ◌+◌, ◌≤◌, List, length, slice_index}
use Rattle.plant_data.specs.declared.row.Tunnel.{Tunnel}

-- least and width have a count for each candidate, and together none above its greatest
pub record IsTunnelOf (greatest : List ℕ) (t : Tunnel) : Type 0 where
  pub least : length t.least ≡ length greatest
  pub width : length t.width ≡ length greatest
  pub most : (k : ℕ) → slice_index t.least k + slice_index t.width k ≤ slice_index greatest k
