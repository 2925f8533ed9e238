use Rattle.std.proofs.Common.{◌≡◌, ◌+◌, length}
use Rattle.deck_lines.specs.Deck.{body_of}
use Rattle.row_shelf.specs.Asked.{EachAt}
use Rattle.case_study.specs.Listings.{tunnel_at}
use Rattle.case_study.specs.Studies.{IsYearList}
use Rattle.case_study.proofs.listing.list_case.Given as goal

abbrev pub invariant-loop-k : goal.invariant-loop-k
invariant-loop-k l =
    (length l.lists.items ≡ l.k) × EachAt (λ k configs. IsYearList (body_of l.typed) l.case (k + 1) (tunnel_at l.tunnels (k + 1)) configs) l.lists.items
