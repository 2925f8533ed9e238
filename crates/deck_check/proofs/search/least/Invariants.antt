use Rattle.std.proofs.Common.{◌≡◌, ℕ, ◌<◌, false}
use Rattle.deck_lines.specs.Deck.{body_of}
use Rattle.deck_check.specs.FaultTable.{is_met}
use Rattle.deck_check.specs.Order.{row_of}
use Rattle.deck_check.proofs.search.least.Given as goal

abbrev pub invariant-loop-a : goal.invariant-loop-a
invariant-loop-a l = (x y z : ℕ) → x < l.a → is_met (row_of l.row (body_of l.deck)) x y z ≡ false
