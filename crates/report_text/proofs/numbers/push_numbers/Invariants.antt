use Rattle.std.proofs.Common.{◌≡◌, ◌++◌, take}
use Rattle.report_text.specs.Lines.{number_words, spaced}
use Rattle.report_text.proofs.numbers.push_numbers.Given as goal

abbrev pub invariant-loop-number : goal.invariant-loop-number
invariant-loop-number l = l.lines.items ≡ l.initial.lines.items ++ spaced (number_words (take l.number-index l.numbers))
