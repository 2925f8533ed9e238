use Rattle.std.proofs.Common.{◌≡◌, ℕ, ◌<◌, false}
use Rattle.deck_lines.specs.Deck.{body_of}
use Rattle.deck_check.specs.FaultTable.{is_met_at_b}
use Rattle.deck_check.specs.Order.{row_of}
use Rattle.deck_check.proofs.search.least_b.Given as goal

abbrev pub invariant-loop-b : goal.invariant-loop-b
invariant-loop-b l = (y z : ℕ) → y < l.b → is_met_at_b (row_of l.row (body_of l.deck)) l.a y z ≡ false
