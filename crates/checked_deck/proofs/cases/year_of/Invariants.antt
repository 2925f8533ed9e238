use Rattle.std.proofs.Common.{◌≡◌, ◌-◌}
use Rattle.deck_lines.specs.Deck.{body_of}
use Rattle.checked_deck.specs.TypedDeck.{head_at, year_of}
use Rattle.checked_deck.proofs.cases.year_of.Given as goal

abbrev pub invariant-loop-back : goal.invariant-loop-back
invariant-loop-back l = year_of (body_of l.deck) (head_at l.word l.case) (l.year - l.back) ≡ year_of (body_of l.deck) (head_at l.word l.case) l.year
