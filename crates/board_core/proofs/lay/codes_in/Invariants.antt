use Rattle.std.proofs.Common.{◌≡◌, take}
use Rattle.board_core.specs.Rows.{codes_of}
use Rattle.board_core.proofs.lay.codes_in.Given as goal

abbrev pub invariant-loop-row : goal.invariant-loop-row
invariant-loop-row l = l.all.items ≡ codes_of (take l.row-index l.kept)
