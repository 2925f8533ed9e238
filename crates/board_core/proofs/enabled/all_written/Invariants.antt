use Rattle.std.proofs.Common.{◌≡◌, ◌≤◌}
use Rattle.board_core.specs.Machine.{all_written}
use Rattle.board_core.proofs.enabled.all_written.Given as goal

abbrev pub invariant-loop-left : goal.invariant-loop-left
invariant-loop-left l = record { few : l.left ≤ l.n; same : all_written l.n l.written ≡ all_written l.left l.written }

abbrev pub decreases-loop-left : goal.decreases-loop-left
decreases-loop-left l = l.left
