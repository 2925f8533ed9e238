use Rattle.std.proofs.Common.{◌≡◌, ◌++◌, take}
use Rattle.report_text.specs.Ranking.{chosen_lines}
use Rattle.report_text.proofs.rounds.push_configs.Given as goal

abbrev pub invariant-loop-k : goal.invariant-loop-k
invariant-loop-k l = l.lines.items ≡ l.initial.lines.items ++ chosen_lines (take l.k l.configs)
