use Rattle.std.proofs.Common.{◌≡◌, ◌+◌, drop}
use Rattle.deck_lines.specs.Grammar.{bad_byte}
use Rattle.hourly_load.proofs.line.find_bad_byte.Given as goal

abbrev pub invariant-loop-i : goal.invariant-loop-i
invariant-loop-i l = bad_byte (l.i + 1) (drop l.i l.line) ≡ bad_byte 1 l.line
