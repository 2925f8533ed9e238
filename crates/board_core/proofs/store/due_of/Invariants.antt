use Rattle.std.proofs.Common.{◌≡◌, drop}
use Rattle.board_core.specs.Rows.{due_word}
use Rattle.board_core.proofs.store.due_of.Given as goal

abbrev pub invariant-loop-r : goal.invariant-loop-r
invariant-loop-r l = due_word l.rows l.code l.at ≡ due_word (drop l.r-index l.rows) l.code l.at
