use Rattle.std.proofs.Common.{◌≡◌, ◌++◌, take}
use Rattle.std.specs.List.{enumerate_from, flat_map}
use Rattle.report_text.specs.Report.{year_text}
use Rattle.report_text.proofs.case.push_plan.Given as goal

abbrev pub invariant-loop-k : goal.invariant-loop-k
invariant-loop-k l = l.lines.items ≡ l.initial.lines.items ++ flat_map (λ p. year_text l.report.conditions l.report.greatest p.0 p.1) (enumerate_from 1 (take l.k l.report.years))
