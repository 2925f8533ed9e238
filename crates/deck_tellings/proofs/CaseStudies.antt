-- The study of one of a deck's cases, under the deck's own tunnels.
use Rattle.std.proofs.Common.{◌≡◌, ap, sym, subst, ℕ, ◌+◌, ◌<◌, List, [], length, get_or, arith}
use Rattle.std.proofs.lemmas.Option.{slice_get-get_or}
use Rattle.checked_deck.specs.TypedDeck.{IsTyped}
use Rattle.deck_check.specs.Readings.{cases}
use Rattle.deck_lines.specs.Deck.{body_of}
use Rattle.deck_lines.specs.declared.statement.Statement.{Statement}
use Rattle.row_shelf.specs.Shelf.{ShelfIs}
use Rattle.case_study.specs.Inner.{DeckStudyIs, IsDeckOn, IsDeckStudy}
use Rattle.case_study.specs.Keys.{IsCaseKey}
use Rattle.case_study.specs.Listings.{AreTunnels, Tunnels, deck_tunnels}
use Rattle.case_study.specs.Studies.{AreYearLists, HasYears, IsOn, IsStudy, StudyIs}

pub study_is : (s : DeckStudyIs) (t : StudyIs) (k : ℕ) → IsDeckStudy s → t.deck ≡ s.deck → t.case ≡ k + 1 → k < length s.cases → t.lists ≡ get_or s.cases k []
    → t.tunnels ≡ deck_tunnels (body_of t.deck) t.case → AreTunnels (body_of t.deck) t.tunnels → IsStudy t
study_is s t k is deck case within lists own tunnels =
    let listed = is.lists.each k (get_or s.cases k []) (slice_get-get_or s.cases k [] within) in
    let here : AreYearLists (body_of s.deck) (k + 1) (deck_tunnels (body_of s.deck) (k + 1)) t.lists =
    subst (AreYearLists (body_of s.deck) (k + 1) (deck_tunnels (body_of s.deck) (k + 1))) (sym lists) listed in
    let numbered : AreYearLists (body_of s.deck) t.case (deck_tunnels (body_of s.deck) t.case) t.lists =
    subst (λ (c : ℕ). AreYearLists (body_of s.deck) c (deck_tunnels (body_of s.deck) c) t.lists) (sym case) here in
    let of_deck : AreYearLists (body_of t.deck) t.case (deck_tunnels (body_of t.deck) t.case) t.lists =
    subst (λ (d : List Statement). AreYearLists (body_of d) t.case (deck_tunnels (body_of d) t.case) t.lists) (sym deck) numbered in
    let many = ap (λ (d : List Statement). cases (body_of d)) deck in
    record {
      typed = subst IsTyped (sym deck) is.typed;
      case = (omega (arith, case), omega (arith, case, many, within, is.lists.many));
      tunnels = tunnels;
      lists = subst (λ (ts : Tunnels). AreYearLists (body_of t.deck) t.case ts t.lists) (sym own) of_deck;
    }

pub study_on : (shelf : ShelfIs) (s : DeckStudyIs) (t : StudyIs) → IsDeckOn shelf s → t.deck ≡ s.deck → t.ids ≡ s.ids → t.tunnels ≡ deck_tunnels (body_of t.deck) t.case → IsOn shelf t
study_on shelf s t on deck ids own =
    let numbered : HasYears (body_of s.deck) shelf.book t.ids = subst (HasYears (body_of s.deck) shelf.book) (sym ids) on.numbers in
    record {
      numbers = subst (λ (d : List Statement). HasYears (body_of d) shelf.book t.ids) (sym deck) numbered;
      rows = λ key is.
          let of_case : IsCaseKey (body_of t.deck) t.case (deck_tunnels (body_of t.deck) t.case) key = subst (λ (ts : Tunnels). IsCaseKey (body_of t.deck) t.case ts key) own is in
          on.rows key (record { case = t.case; is_key = subst (λ (d : List Statement). IsCaseKey (body_of d) t.case (deck_tunnels (body_of d) t.case) key) deck of_case });
    }
