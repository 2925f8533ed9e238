use Rattle.std.proofs.Common.{◌≡◌, ◌+◌, length}
use Rattle.deck_lines.specs.Deck.{body_of}
use Rattle.row_shelf.specs.Asked.{EachAt}
use Rattle.case_study.specs.Studies.{IsYearSystem}
use Rattle.case_study.proofs.listing.systems_of.Given as goal

abbrev pub invariant-loop-k : goal.invariant-loop-k
invariant-loop-k l = (length l.systems.items ≡ l.k) × EachAt (λ k s. IsYearSystem (body_of l.typed) (k + 1) s) l.systems.items
