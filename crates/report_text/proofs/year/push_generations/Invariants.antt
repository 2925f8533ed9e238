use Rattle.std.proofs.Common.{◌≡◌, ◌++◌, take}
use Rattle.report_text.specs.Report.{gen_lines}
use Rattle.report_text.proofs.year.push_generations.Given as goal

abbrev pub invariant-loop-generation : goal.invariant-loop-generation
invariant-loop-generation l = l.lines.items ≡ l.initial.lines.items ++ gen_lines l.year (take l.generation-index l.generations)
