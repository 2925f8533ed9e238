-- Seats and boards of the trials, whose due rows are the codes eleven times.
use Rattle.std.specs.Prelude.{◌≡◌, ℕ, List, None}
use Rattle.board_core.specs.Trial.{same}
use Rattle.sim_board.specs.Seats.{BoardIs, SeatIs}
use Rattle.sim_board.specs.Start.{rows_for}

-- a seat of the board over these codes, with nothing in hand
pub record OnTrial (b : BoardIs) (codes : List ℕ) (s : SeatIs) : Type 0 where
  pub table : s.table_id ≡ b.table_id
  pub rows : s.rows ≡ rows_for same codes
  pub free : s.actor.hand ≡ None
