use Rattle.std.proofs.Common.{◌≡◌, ◌++◌, slice_index_or, None}
use Rattle.plan_program.specs.Plans.{entry_at}
use Rattle.report_text.specs.Lines.{texts}
use Rattle.report_text.specs.Report.{come_line}
use Rattle.report_text.proofs.come.push_comes.Given as goal

abbrev pub invariant-loop-i : goal.invariant-loop-i
invariant-loop-i l = l.lines.items ≡ l.initial.lines.items ++ texts l.i (λ i. come_line l.year (entry_at l.layer i).config (slice_index_or l.come i None))
