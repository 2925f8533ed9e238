use Rattle.std.proofs.Common.{◌≡◌, ◌+◌, All, length}
use Rattle.deck_lines.specs.Deck.{body_of}
use Rattle.row_shelf.specs.Asked.{EachAt}
use Rattle.case_study.specs.Inner.{FitYears}
use Rattle.case_study.specs.Listings.{deck_tunnels}
use Rattle.case_study.specs.Studies.{AreYearLists}
use Rattle.case_study.proofs.listing.list_cases.Given as goal

abbrev pub invariant-loop-c : goal.invariant-loop-c
invariant-loop-c l = record {
  many : length l.lists.items ≡ l.c;
  each : EachAt (λ k years. AreYearLists (body_of l.typed) (k + 1) (deck_tunnels (body_of l.typed) (k + 1)) years) l.lists.items;
  fit : All (FitYears (body_of l.typed)) l.lists.items;
}
