use Rattle.std.proofs.Common.{◌≡◌, take}
use Rattle.board_core.proofs.store.rows_in.Given as goal

abbrev pub invariant-loop-row : goal.invariant-loop-row
invariant-loop-row l = l.all.items ≡ take l.row-index l.rows
