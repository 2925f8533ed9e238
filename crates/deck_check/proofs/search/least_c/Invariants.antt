use Rattle.std.proofs.Common.{◌≡◌, ℕ, ◌<◌, false}
use Rattle.deck_lines.specs.Deck.{body_of}
use Rattle.deck_check.specs.FaultTable.{is_met_at_c}
use Rattle.deck_check.specs.Order.{row_of}
use Rattle.deck_check.proofs.search.least_c.Given as goal

abbrev pub invariant-loop-c : goal.invariant-loop-c
invariant-loop-c l = (z : ℕ) → z < l.c → is_met_at_c (row_of l.row (body_of l.deck)) l.a l.b z ≡ false
