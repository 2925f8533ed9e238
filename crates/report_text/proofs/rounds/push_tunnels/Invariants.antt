use Rattle.std.proofs.Common.{◌≡◌, ◌++◌, take}
use Rattle.report_text.specs.Rounds.{tunnel_lines}
use Rattle.report_text.proofs.rounds.push_tunnels.Given as goal

abbrev pub invariant-loop-k : goal.invariant-loop-k
invariant-loop-k l = l.lines.items ≡ l.initial.lines.items ++ tunnel_lines l.case (take l.k l.tunnels)
