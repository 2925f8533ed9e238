-- What contracts see of a curve. This program's own.
use Rattle.std.specs.Prelude.{ℕ, List}

-- the cells, from the one at 0 on, and how many there is room for
pub record CellList : Type 0 where
  pub cells : List ℕ
  pub room : ℕ
