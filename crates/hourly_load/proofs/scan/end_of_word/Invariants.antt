use Rattle.std.proofs.Common.{◌≤◌, ◌-◌, drop, take, length}
use Rattle.deck_lines.specs.Words.{IsWord}
use Rattle.hourly_load.proofs.scan.end_of_word.Given as goal

abbrev pub invariant-loop-i : goal.invariant-loop-i
invariant-loop-i l = record {
  within : l.i ≤ length l.line;
  from : l.start ≤ l.i;
  word : IsWord (take (l.i - l.start) (drop l.start l.line));
}

abbrev pub decreases-loop-i : goal.decreases-loop-i
decreases-loop-i l = length l.line - l.i
