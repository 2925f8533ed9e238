use Rattle.std.proofs.Common.{◌≡◌, ◌≢◌, ℕ, length}
use Rattle.board_core.specs.Lists.{IsIn}
use Rattle.worked_store.proofs.board.numbers.Given as goal

abbrev pub invariant-loop-code : goal.invariant-loop-code
invariant-loop-code l = record {
  count : length l.all.items ≡ l.code;
  codes : (x : ℕ) → IsIn x l.all.items → x ≢ 0;
}
