use Rattle.std.proofs.Common.{◌≡◌, length, take}
use Rattle.deck_lines.proofs.behind.config_of.Given as goal

abbrev pub invariant-loop-k : goal.invariant-loop-k
invariant-loop-k l = record {
  width : length l.config ≡ length l.counts;
  so_far : take l.k l.config ≡ take l.k l.counts;
}
