use Rattle.std.proofs.Common.{◌≡◌, ◌≤◌}
use Rattle.board_core.specs.Machine.{path_seen}
use Rattle.board_core.proofs.enabled.path_seen.Given as goal

abbrev pub invariant-loop-left : goal.invariant-loop-left
invariant-loop-left l = record {
  few : l.left ≤ l.n;
  same : path_seen l.bits l.code l.seen l.n ≡ path_seen l.bits l.code l.seen l.left;
}

abbrev pub decreases-loop-left : goal.decreases-loop-left
decreases-loop-left l = l.left
