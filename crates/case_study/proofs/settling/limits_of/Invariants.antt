use Rattle.std.proofs.Common.{◌≡◌, ◌+◌, length}
use Rattle.checked_deck.specs.TypedDeck.{limit}
use Rattle.deck_lines.specs.Deck.{body_of}
use Rattle.row_shelf.specs.Asked.{EachAt}
use Rattle.case_study.proofs.settling.limits_of.Given as goal

abbrev pub invariant-loop-k : goal.invariant-loop-k
invariant-loop-k l = (length l.limits.items ≡ l.k) × EachAt (λ k z. z ≡ limit (body_of l.typed) l.case (k + 1)) l.limits.items
