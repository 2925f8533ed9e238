use Rattle.std.proofs.Common.{subst}
use Rattle.sim_board.specs.Seats.{SeatKnows}
use Rattle.sim_board.proofs.Sitting.{seat_knows}
use Rattle.sim_board.proofs.board.Board.close.Goals as goal

pub returns : goal.returns
returns g c = record { knows = subst SeatKnows c.seat.view_is (seat_knows c.seat.inside.seat.table_id c.seat.inside.seat.me.0 c.seat.invariant.2) }
