use Rattle.std.proofs.Common.{◌≡◌, ◌++◌}
use Rattle.report_text.specs.Lines.{texts}
use Rattle.report_text.specs.Rounds.{pair_words}
use Rattle.report_text.proofs.rounds.push_pairs.Given as goal

abbrev pub invariant-loop-k : goal.invariant-loop-k
invariant-loop-k l = l.lines.items ≡ l.initial.lines.items ++ texts l.k (pair_words l.tunnel)
