use Rattle.std.proofs.Common.{◌≡◌, ◌≤◌}
use Rattle.worked_store.specs.Trial.{OnTrial}
use Rattle.worked_store.proofs.board.place_all.Given as goal

abbrev pub invariant-loop-code : goal.invariant-loop-code
invariant-loop-code l = record {
  trial : OnTrial l.board l.codes l.seat;
  share : l.seat.actor.share ≡ l.initial.seat.actor.share;
  few : l.count ≤ l.code-index;
}
