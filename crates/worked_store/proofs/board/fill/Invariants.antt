use Rattle.std.proofs.Common.{◌≡◌}
use Rattle.sim_board.specs.Filling.{filling}
use Rattle.worked_store.proofs.board.fill.Given as goal

abbrev pub invariant-loop-at : goal.invariant-loop-at
invariant-loop-at l = l.seat ≡ filling l.initial.seat l.at
