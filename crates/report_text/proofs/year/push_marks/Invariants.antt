use Rattle.std.proofs.Common.{◌≡◌, ◌++◌}
use Rattle.report_text.specs.Lines.{texts}
use Rattle.report_text.specs.Marks.{mark_at}
use Rattle.report_text.proofs.year.push_marks.Given as goal

abbrev pub invariant-loop-k : goal.invariant-loop-k
invariant-loop-k l = l.lines.items ≡ l.initial.lines.items ++ texts l.k (mark_at l.greatest l.tunnel l.config)
