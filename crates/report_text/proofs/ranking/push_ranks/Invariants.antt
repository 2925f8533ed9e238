use Rattle.std.proofs.Common.{◌≡◌, ◌++◌, take}
use Rattle.report_text.specs.Ranking.{ranked_text}
use Rattle.report_text.proofs.ranking.push_ranks.Given as goal

abbrev pub invariant-loop-k : goal.invariant-loop-k
invariant-loop-k l = l.lines.items ≡ l.initial.lines.items ++ ranked_text (take l.k l.ranking)
