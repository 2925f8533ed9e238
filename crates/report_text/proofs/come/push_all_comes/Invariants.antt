use Rattle.std.proofs.Common.{◌≡◌, ◌+◌, ◌++◌, [], slice_index_or}
use Rattle.plan_program.specs.Plans.{layer_at}
use Rattle.report_text.specs.Lines.{texts}
use Rattle.report_text.specs.Report.{come_lines}
use Rattle.report_text.proofs.come.push_all_comes.Given as goal

abbrev pub invariant-loop-k : goal.invariant-loop-k
invariant-loop-k l = l.lines.items ≡ l.initial.lines.items ++ texts l.k (λ k. come_lines (k + 1) (layer_at l.table k) (slice_index_or l.come k []))
