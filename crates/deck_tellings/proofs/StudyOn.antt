-- The study of all cases, and that of one, on a shelf that has learnt the keys of their lists.
use Rattle.std.proofs.Common.{◌≡◌, sym, subst, ℕ, List, [], ◌∷◌}
use Rattle.deck_check.specs.DeckFault.{HasNoFault}
use Rattle.deck_lines.specs.Deck.{body_of}
use Rattle.deck_lines.specs.declared.statement.Statement.{Statement}
use Rattle.row_shelf.specs.Shelf.{ShelfIs}
use Rattle.sim_engine.specs.Engine.{Work}
use Rattle.case_study.specs.Inner.{DeckStudyIs, IsDeckOn, IsOfLists}
use Rattle.case_study.specs.Listings.{Tunnels}
use Rattle.deck_tellings.specs.Memory.{MemoryIs}
use Rattle.deck_tellings.specs.Learning.{Learns}
use Rattle.case_study.specs.Studies.{AreCaseLists, AreYearLists, HasYears, IsOn, StudyIs}
use Rattle.deck_tellings.proofs.ListedKeys.{asks_case, asks_deck, case_within, is_taken}
use Rattle.deck_tellings.proofs.TellBehind.{holds_asked}

pub deck_on : {X : Type 0} (deck : List Statement) (all : List (List (List (List ℕ)))) (ids : List ℕ) (s : DeckStudyIs) (shelf : ShelfIs) (m n : MemoryIs) (work : X → Work) (es fs : List X)
    → s ≡ record { deck = deck; cases = all; ids = ids } → shelf ≡ n.shelf → HasNoFault (body_of deck) → AreCaseLists (body_of deck) all → HasYears (body_of deck) n.shelf.book ids
    → Learns (Unit {0}) (IsOfLists (body_of deck) all) (body_of deck) m n work es fs 0 → IsDeckOn shelf s
deck_on deck all ids s shelf m n work es fs is here faultless are numbers l =
    let d = body_of deck in
    subst (λ (z : DeckStudyIs). IsDeckOn shelf z) (sym is)
    (subst (λ (z : ShelfIs). IsDeckOn z (record { deck = deck; cases = all; ids = ids })) (sym here)
    (record {
      numbers = numbers;
      rows = λ key is_key. holds_asked (Unit {0}) (IsOfLists d all) d m n work es fs 0 key l (asks_deck d all key are (is_taken d all faultless are, is_key));
    }))

pub case_on : {X : Type 0} (deck : List Statement) (case : ℕ) (tunnels : Tunnels) (lists : List (List (List ℕ))) (ids : List ℕ) (s : StudyIs) (shelf : ShelfIs) (m n : MemoryIs) (work : X → Work) (es fs : List X)
    → s ≡ record { deck = deck; case = case; tunnels = tunnels; lists = lists; ids = ids } → shelf ≡ n.shelf → AreYearLists (body_of deck) case tunnels lists → HasYears (body_of deck) n.shelf.book ids
    → Learns (Unit {0}) (IsOfLists (body_of deck) (lists ∷ [])) (body_of deck) m n work es fs 0 → IsOn shelf s
case_on deck case tunnels lists ids s shelf m n work es fs is here are numbers l =
    let d = body_of deck in
    subst (λ (z : StudyIs). IsOn shelf z) (sym is)
    (subst (λ (z : ShelfIs). IsOn z (record { deck = deck; case = case; tunnels = tunnels; lists = lists; ids = ids })) (sym here)
    (record {
      numbers = numbers;
      rows = λ key is_key. holds_asked (Unit {0}) (IsOfLists d (lists ∷ [])) d m n work es fs 0 key l (asks_case d case tunnels lists key are (case_within d case tunnels lists are, is_key));
    }))
