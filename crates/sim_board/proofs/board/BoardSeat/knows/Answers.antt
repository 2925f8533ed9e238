use Rattle.std.proofs.Common.{subst}
use Rattle.sim_board.specs.Seats.{SeatKnows}
use Rattle.sim_board.proofs.Sitting.{seat_knows}
use Rattle.sim_board.proofs.board.BoardSeat.knows.Goals as goal

pub returns : goal.returns
returns c = subst SeatKnows c.self.view_is (seat_knows c.self.inside.seat.table_id c.self.inside.seat.me.0 c.self.invariant.2)
