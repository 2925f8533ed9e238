-- Due rows for the trials: the row of a code is the code eleven times.
use Rattle.std.specs.Prelude.{ℕ}
use Rattle.board_core.specs.declared.row.Words.{Words}
use Rattle.board_core.specs.declared.row.KeptRow.{KeptRow}

abbrev pub same : ℕ → Words
same x = record { w0 = x; w1 = x; w2 = x; w3 = x; w4 = x; w5 = x; w6 = x; w7 = x; w8 = x; w9 = x; w10 = x }

abbrev pub same_row : ℕ → KeptRow
same_row x = record { code = x; words = same x }
