use Rattle.std.proofs.Common.{◌≡◌, ◌≢◌, ℕ, ◌<◌}
use Rattle.board_core.specs.Start.{code_from}
use Rattle.board_core.proofs.lay.lay_row.Given as goal

abbrev pub invariant-loop-i : goal.invariant-loop-i
invariant-loop-i l = record {
  same : l.slots ≡ l.initial.slots;
  past : (j : ℕ) → j < l.i → code_from l.bits l.initial.slots l.row.code j ≢ 0;
}
