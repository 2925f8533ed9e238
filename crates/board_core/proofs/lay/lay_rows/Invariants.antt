use Rattle.std.proofs.Common.{take}
use Rattle.board_core.specs.Rows.{codes_of}
use Rattle.board_core.specs.Start.{LaysRows}
use Rattle.board_core.specs.Laid.{IsLaid}
use Rattle.board_core.proofs.lay.lay_rows.Given as goal

abbrev pub invariant-loop-k : goal.invariant-loop-k
invariant-loop-k l = record {
  laid : IsLaid l.bits l.due (codes_of (take l.k l.kept)) l.slots;
  placed : LaysRows l.bits l.initial.slots (take l.k l.kept) l.slots;
}
