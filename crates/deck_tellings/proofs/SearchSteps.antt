-- A search: what is told and learnt of the rounds of a case and of the cases of a deck, one behind the other.
use Rattle.std.proofs.Common.{◌≡◌, ◌∙◌, ap, sym, refl, subst, ℕ, suc, ◌+◌, ◌-◌, ◌<◌, ◌≤◌, inl, inr, ⊎_elim, List, [], ◌++◌, Option, None, Some, add-one, append-nil, length, arith, append_assoc, Result, OnErr, OnOk}
use Rattle.std.specs.Prelude.{Vec}
use Rattle.std.proofs.lemmas.Bool.{cases_lt}
use Rattle.std.proofs.lemmas.List.Elements.{All-append, All-weaker}
use Rattle.deck_check.specs.DeckFault.{HasNoFault, IsFaultOf}
use Rattle.deck_check.specs.Readings.{Says, cases, greatest, years}
use Rattle.deck_lines.specs.Deck.{body_of}
use Rattle.deck_lines.specs.declared.statement.Statement.{Statement}
use Rattle.deck_check.specs.declared.fault.DeckFault.{DeckFault}
use Rattle.plant_data.specs.Tunnels.{IsTunnelOf}
use Rattle.report_text.specs.Refusals.{refusal_line}
use Rattle.report_text.specs.Rounds.{AreWide, IsWritable, case_line, found_text, round_line, rounds_line}
use Rattle.report_text.specs.declared.refusals.Refusal.TheVariants.{Deck}
use Rattle.report_text.specs.declared.rounds.Found.{Found}
use Rattle.row_shelf.specs.Shelf.{Grows, IsShelf, ShelfIs}
use Rattle.sim_engine.specs.Engine.{Run, Work}
use Rattle.tunnel_configs.specs.Listed.{ListingsAreOne}
use Rattle.case_study.specs.Keys.{DemandsUnder}
use Rattle.case_study.specs.Listings.{AreTunnels, AreWithin, Tunnels, deck_tunnels}
use Rattle.deck_tellings.specs.Rounds.{AreCasesSearched, AreRounds, IsCaseSearched, IsDeckSearched, IsFound, IsRoundUnder, IsSettled, RoundDemands, SearchDemands, tunnels_behind}
use Rattle.deck_tellings.specs.Searching.{CasesDemand, GoesRound, HasRoundsFor, IsLastRound, IsSaid, IsSoFar}
use Rattle.deck_tellings.specs.Memory.{MemoryIs}
use Rattle.deck_tellings.specs.Learning.{GainsFew, HasPlaceFor, HasRoomFor, IsLost, Learns, OnlyGains, Tells}
use Rattle.case_study.specs.Studies.{IsSystemOf}
use Rattle.deck_tellings.specs.Told.{plain}
use Rattle.deck_tellings.specs.declared.rounds.NextRound.{NextRound}
use Rattle.deck_tellings.proofs.LearnOn.{Either, few_years, learns_on, lost_on}
use Rattle.deck_tellings.proofs.LearnSteps.{learns_none, lost_of}
use Rattle.deck_tellings.proofs.RoundSteps.{none_behind, round_one}
use Rattle.deck_tellings.proofs.TellBehind.{learns_by, lost_by}
use Rattle.year_system.specs.System.{System}

-- ---- the round that comes next

wide_of : (d : Says) (tunnels : Tunnels) → AreTunnels d tunnels → AreWide tunnels
wide_of d tunnels are = All-weaker (IsTunnelOf (greatest d)) (λ t. length t.width ≡ length t.least) (λ t is. is.width ∙ sym is.least) tunnels are.fit

pub writable_next : {Z : Type 0} (d : Says) (c : ℕ) (r next : NextRound) (said now : Vec ℕ Z) → AreTunnels d r.tunnels.items → GoesRound d c r next said now → IsWritable next.last
writable_next d c r next said now are go = subst IsWritable (sym go.last) (wide_of d go.found.tunnels (subst (AreTunnels d) (sym go.under) are))

pub under_next : {Z : Type 0} (d : Says) (c k : ℕ) (r next : NextRound) (said now : Vec ℕ Z) → IsRoundUnder k d c r.tunnels.items → GoesRound d c r next said now → IsRoundUnder (k + 1) d c next.tunnels.items
under_next d c k r next said now is go =
    subst (λ (n : ℕ). IsRoundUnder n d c next.tunnels.items) (sym (add-one k)) (go.found, subst (IsRoundUnder k d c) (sym go.under) is, go.is_found, go.unsettled, go.tunnels)

pub so_first : {Z : Type 0} (d : Says) (c : ℕ) (r : NextRound) (said : Vec ℕ Z) → r.number ≡ 1 → r.tunnels.items ≡ deck_tunnels d c → r.last ≡ None → IsSoFar d c 0 r said said
so_first d c r said number tunnels last = record {
  front = [];
  text = sym (append-nil said.items);
  gives = λ rest h.
      subst (λ (n : ℕ). AreRounds 20 d c n (deck_tunnels d c) None rest) number
      (subst (λ (t : Tunnels). AreRounds 20 d c r.number t None rest) tunnels (subst (λ (l : Option Found). AreRounds 20 d c r.number r.tunnels.items l rest) last h));
}

-- one round less is allowed behind it
one_less : (k : ℕ) → k < 20 → 20 - k ≡ suc (20 - (k + 1))
one_less k less = omega (arith, less)

pub so_next : {Z : Type 0} (d : Says) (c k : ℕ) (r next : NextRound) (said mid now : Vec ℕ Z) → k < 20 → IsSoFar d c k r said mid → GoesRound d c r next mid now → IsSoFar d c (k + 1) next said now
so_next d c k r next said mid now less so go =
    let line = round_line r.number go.found.total in
    record {
      front = so.front ++ line;
      text = go.text ∙ (ap (λ (t : List ℕ). t ++ line) so.text ∙ append_assoc said.items so.front line);
      gives = λ rest h.
          let more = 20 - (k + 1) in
          let one : AreRounds more d c (r.number + 1) next.tunnels.items next.last rest = subst (λ (n : ℕ). AreRounds more d c n next.tunnels.items next.last rest) go.number h in
          let two : AreRounds more d c (r.number + 1) (tunnels_behind d go.found) next.last rest = subst (λ (t : Tunnels). AreRounds more d c (r.number + 1) t next.last rest) go.tunnels one in
          let three : AreRounds more d c (r.number + 1) (tunnels_behind d go.found) (Some go.found) rest = subst (λ (l : Option Found). AreRounds more d c (r.number + 1) (tunnels_behind d go.found) l rest) go.last two in
          let whole : AreRounds (suc more) d c r.number r.tunnels.items r.last (line ++ rest) = inr (inr (record {
            found = go.found;
            under = go.under;
            is_found = go.is_found;
            rest = rest;
            behind = inr (go.unsettled, three);
            is = refl;
          })) in
          subst (λ (t : List ℕ). AreRounds 20 d c 1 (deck_tunnels d c) None t) (sym (append_assoc so.front line rest))
          (so.gives (line ++ rest) (subst (λ (n : ℕ). AreRounds n d c r.number r.tunnels.items r.last (line ++ rest)) (sym (one_less k less)) whole));
    }

pub so_last : {Z : Type 0} (d : Says) (c k : ℕ) (r : NextRound) (said mid now : Vec ℕ Z) → k < 20 → IsSoFar d c k r said mid → IsLastRound d c r mid now
    → IsSaid (AreRounds 20 d c 1 (deck_tunnels d c) None) said now
so_last d c k r said mid now less so last = record {
  rest = so.front ++ last.rest;
  is = so.gives last.rest (subst (λ (n : ℕ). AreRounds n d c r.number r.tunnels.items r.last last.rest) (sym (one_less k less)) (last.is (20 - (k + 1))));
  text = last.text ∙ (ap (λ (t : List ℕ). t ++ last.rest) so.text ∙ append_assoc said.items so.front last.rest);
}

pub so_end : {Z : Type 0} (d : Says) (c k : ℕ) (r : NextRound) (said mid next now : Vec ℕ Z) → k ≡ 20 → IsSoFar d c k r said mid → next.items ≡ mid.items ++ rounds_line → now.items ≡ next.items ++ found_text c r.last
    → IsSaid (AreRounds 20 d c 1 (deck_tunnels d c) None) said now
so_end d c k r said mid next now all so e f =
    let rest = rounds_line ++ found_text c r.last in
    let none : 20 - k ≡ 0 = omega (arith, all) in
    record {
      rest = so.front ++ rest;
      is = so.gives rest (subst (λ (n : ℕ). AreRounds n d c r.number r.tunnels.items r.last rest) (sym none) refl);
      text = f ∙ (ap (λ (t : List ℕ). t ++ found_text c r.last) e ∙ (append_assoc mid.items rounds_line (found_text c r.last) ∙ (ap (λ (t : List ℕ). t ++ rest) so.text ∙ append_assoc said.items so.front rest)));
    }

-- ---- the keys of the rounds

-- nothing is learnt where nothing is asked
pub learns_nothing : {X : Type 0} (A : Run → Type 0) (d : Says) (m : MemoryIs) (work : X → Work) (es : List X) → ((key : Run) → A key → ⊥) → Learns (Unit {0}) A d m m work es es 0
learns_nothing A d m work es none = learns_by ⊥ (Unit {0}) A A d m m work es es 0 (λ never. tt) (λ key a. a) (λ key a. a) (learns_none ⊥ A d m work es (λ never. never) none)

no_round : (d : Says) (c : ℕ) (key : Run) → RoundDemands d c 0 key → ⊥
no_round d c key r = absurd (omega (arith, r.few))

pub rounds_none : {X : Type 0} (d : Says) (c : ℕ) (m : MemoryIs) (work : X → Work) (es : List X) → Learns (Unit {0}) (RoundDemands d c 0) d m m work es es 0
rounds_none d c m work es = learns_nothing (RoundDemands d c 0) d m work es (no_round d c)

up_to : (d : Says) (c k : ℕ) (tunnels : Tunnels) (key : Run) → IsRoundUnder k d c tunnels → Either (RoundDemands d c k) (DemandsUnder d c tunnels) key → RoundDemands d c (k + 1) key
up_to d c k tunnels key is (inl r) = record { round = r.round; few = omega (arith, r.few); tunnels = r.tunnels; is_round = r.is_round; asked = r.asked }
up_to d c k tunnels key is (inr a) = record { round = k; few = omega arith; tunnels = tunnels; is_round = is; asked = a }

from_up_to : ListingsAreOne → (d : Says) (c k : ℕ) (tunnels : Tunnels) (key : Run) → IsRoundUnder k d c tunnels → RoundDemands d c (k + 1) key → Either (RoundDemands d c k) (DemandsUnder d c tunnels) key
from_up_to one d c k tunnels key is r =
    ⊎_elim
    (λ below. inl (record { round = r.round; few = below; tunnels = r.tunnels; is_round = r.is_round; asked = r.asked }))
    (λ above.
    let same : r.round ≡ k = omega (arith, r.few, above) in
    let its : r.tunnels ≡ tunnels = round_one one k d c r.tunnels tunnels (subst (λ (n : ℕ). IsRoundUnder n d c r.tunnels) same r.is_round) is in
    inr (subst (λ (t : Tunnels). DemandsUnder d c t key) its r.asked))
    (cases_lt r.round k)

pub round_more : {X : Type 0} → ListingsAreOne → (d : Says) (c k : ℕ) (tunnels : Tunnels) (m n o : MemoryIs) (work : X → Work) (es fs gs : List X) → IsRoundUnder k d c tunnels
    → Learns (Unit {0}) (RoundDemands d c k) d m n work es fs 0 → Learns (AreWithin d c tunnels) (DemandsUnder d c tunnels) d n o work fs gs 0 → Learns (Unit {0}) (RoundDemands d c (k + 1)) d m o work es gs 0
round_more one d c k tunnels m n o work es fs gs is before now =
    let other = learns_by (AreWithin d c tunnels) (Unit {0}) (DemandsUnder d c tunnels) (DemandsUnder d c tunnels) d n o work fs gs 0 (λ within. tt) (λ key a. a) (λ key a. a) now in
    learns_by (Unit {0}) (Unit {0}) (Either (RoundDemands d c k) (DemandsUnder d c tunnels)) (RoundDemands d c (k + 1)) d m o work es gs 0 (λ t. t)
    (λ key a. up_to d c k tunnels key is a) (λ key r. from_up_to one d c k tunnels key is r)
    (learns_on (RoundDemands d c k) (DemandsUnder d c tunnels) d m n o work es fs gs before other)

allowed : (d : Says) (c j : ℕ) (key : Run) → j ≤ 20 → RoundDemands d c j key → RoundDemands d c 20 key
allowed d c j key most r = record { round = r.round; few = omega (arith, r.few, most); tunnels = r.tunnels; is_round = r.is_round; asked = r.asked }

-- behind the last round nothing more is asked
pub rounds_last : {X : Type 0} → ListingsAreOne → (d : Says) (c k : ℕ) (tunnels : Tunnels) (m n : MemoryIs) (work : X → Work) (es fs : List X) → k < 20 → IsRoundUnder k d c tunnels
    → ((f : Found) → f.tunnels ≡ tunnels → IsFound d c f → (IsSettled d f → ⊥) → ⊥) → Learns (Unit {0}) (RoundDemands d c (k + 1)) d m n work es fs 0 → Learns (Unit {0}) (RoundDemands d c 20) d m n work es fs 0
rounds_last one d c k tunnels m n work es fs less is last l =
    learns_by (Unit {0}) (Unit {0}) (RoundDemands d c (k + 1)) (RoundDemands d c 20) d m n work es fs 0 (λ t. t)
    (λ key r. allowed d c (k + 1) key (omega (arith, less)) r)
    (λ key r. record {
      round = r.round;
      few = ⊎_elim (λ below. below) (λ above. absurd (none_behind one k d c tunnels is last r.round r.tunnels (omega (arith, above)) r.is_round)) (cases_lt r.round (k + 1));
      tunnels = r.tunnels;
      is_round = r.is_round;
      asked = r.asked;
    }) l

pub rounds_all : {X : Type 0} (d : Says) (c k : ℕ) (m n : MemoryIs) (work : X → Work) (es fs : List X) → k ≡ 20 → Learns (Unit {0}) (RoundDemands d c k) d m n work es fs 0 → Learns (Unit {0}) (RoundDemands d c 20) d m n work es fs 0
rounds_all d c k m n work es fs all l = subst (λ (j : ℕ). Learns (Unit {0}) (RoundDemands d c j) d m n work es fs 0) all l

-- where memory was wanting: in a round, or in what is told of it
pub round_lost : {X : Type 0} (d : Says) (c k : ℕ) (tunnels : Tunnels) (m n o : MemoryIs) (work : X → Work) (es fs gs : List X) → k < 20 → IsRoundUnder k d c tunnels
    → Learns (Unit {0}) (RoundDemands d c k) d m n work es fs 0 → IsLost (AreWithin d c tunnels) (DemandsUnder d c tunnels) d n o work fs gs → IsLost (Unit {0}) (RoundDemands d c 20) d m o work es gs
round_lost d c k tunnels m n o work es fs gs less is before now =
    let other = lost_by (AreWithin d c tunnels) (Unit {0}) (DemandsUnder d c tunnels) (DemandsUnder d c tunnels) d n o work fs gs (λ within. tt) (λ key a. a) now in
    lost_by (Unit {0}) (Unit {0}) (Either (RoundDemands d c k) (DemandsUnder d c tunnels)) (RoundDemands d c 20) d m o work es gs (λ t. t)
    (λ key a. allowed d c (k + 1) key (omega (arith, less)) (up_to d c k tunnels key is a))
    (lost_on (RoundDemands d c k) (DemandsUnder d c tunnels) d m n o work es fs gs before other)

pub rounds_lost : {X : Type 0} (d : Says) (c k : ℕ) (m n : MemoryIs) (work : X → Work) (es fs : List X) → k ≤ 20 → Learns (Unit {0}) (RoundDemands d c k) d m n work es fs 0 → IsLost (Unit {0}) (RoundDemands d c 20) d m n work es fs
rounds_lost d c k m n work es fs most l =
    lost_by (Unit {0}) (Unit {0}) (RoundDemands d c k) (RoundDemands d c 20) d m n work es fs (λ t. t) (λ key r. allowed d c k key most r) (lost_of (Unit {0}) (RoundDemands d c k) d m n work es fs 0 l)

-- ---- the room

grows_on : (d : Says) (a b c : List System) → Grows (IsSystemOf d) a b → Grows (IsSystemOf d) b c → Grows (IsSystemOf d) a c
grows_on d a b c one other = record {
  more = one.more ++ other.more;
  is = other.is ∙ (ap (λ (x : List System). x ++ other.more) one.is ∙ append_assoc a one.more other.more);
  each = All-append (IsSystemOf d) one.more other.more one.each other.each;
}

pub room_at : (A : Run → Type 0) (d : Says) (keys used : ℕ) (m n : MemoryIs) → years d ≤ 30 → IsShelf n.shelf → HasRoundsFor d keys m → OnlyGains (Unit {0}) A d m.shelf n.shelf → length n.shelf.kept ≤ length m.shelf.kept + used
    → used + 15000 ≤ keys → HasRoomFor 15000 n
room_at A d keys used m n most shelf has gains few fits =
    let front : ShelfIs = record { book = has.front; kept = [] } in
    let long = few_years d front n.shelf shelf most (grows_on d has.front m.shelf.book n.shelf.book has.grown gains.grown) in
    record { systems = omega (arith, long, has.few); rows = omega (arith, few, has.rows, fits) }

pub rounds_at : (A : Run → Type 0) (d : Says) (keys used : ℕ) (m n : MemoryIs) → HasRoundsFor d keys m → OnlyGains (Unit {0}) A d m.shelf n.shelf → length n.shelf.kept ≤ length m.shelf.kept + used → used + 300000 ≤ keys → HasRoundsFor d 300000 n
rounds_at A d keys used m n has gains few fits = record {
  front = has.front;
  few = has.few;
  grown = grows_on d has.front m.shelf.book n.shelf.book has.grown gains.grown;
  rows = omega (arith, few, has.rows, fits);
}

pub rounds_from : (d : Says) (keys : ℕ) (m : MemoryIs) → HasPlaceFor keys m → HasRoundsFor d keys m
rounds_from d keys m has = record {
  front = m.shelf.book;
  few = has.systems;
  grown = record { more = []; is = sym (append-nil m.shelf.book); each = λ i e within. absurd (omega (arith, within)) };
  rows = has.rows;
}

-- ---- a case

pub case_said : {Z : Type 0} (d : Says) (c : ℕ) (said mid now : Vec ℕ Z) → mid.items ≡ said.items ++ case_line c → IsSaid (AreRounds 20 d c 1 (deck_tunnels d c) None) mid now → IsSaid (λ t. IsCaseSearched d c (plain t)) said now
case_said d c said mid now head said_rest = record {
  rest = case_line c ++ said_rest.rest;
  is = record { rounds = said_rest.rest; are_rounds = said_rest.is; is = refl };
  text = said_rest.text ∙ (ap (λ (t : List ℕ). t ++ said_rest.rest) head ∙ append_assoc said.items (case_line c) said_rest.rest);
}

-- ---- the cases

pub none_said : {Z : Type 0} (d : Says) (said : Vec ℕ Z) → IsSaid (λ t. AreCasesSearched d 0 (plain t)) said said
none_said d said = record { rest = []; is = refl; text = sym (append-nil said.items) }

pub cases_said : {Z : Type 0} (d : Says) (c : ℕ) (said mid now : Vec ℕ Z) → IsSaid (λ t. AreCasesSearched d c (plain t)) said mid → IsSaid (λ t. IsCaseSearched d (c + 1) (plain t)) mid now
    → IsSaid (λ t. AreCasesSearched d (c + 1) (plain t)) said now
cases_said d c said mid now before one =
    let last : IsCaseSearched d (suc c) (plain one.rest) = subst (λ (n : ℕ). IsCaseSearched d n (plain one.rest)) (add-one c) one.is in
    let both : AreCasesSearched d (suc c) (plain (before.rest ++ one.rest)) = record { one = plain before.rest; other = plain one.rest; is_one = before.is; is_other = last; is = refl } in
    record {
      rest = before.rest ++ one.rest;
      is = subst (λ (n : ℕ). AreCasesSearched d n (plain (before.rest ++ one.rest))) (sym (add-one c)) both;
      text = one.text ∙ (ap (λ (t : List ℕ). t ++ one.rest) before.text ∙ append_assoc said.items before.rest one.rest);
    }

pub cases_none : {X : Type 0} (d : Says) (m : MemoryIs) (work : X → Work) (es : List X) → Learns (Unit {0}) (CasesDemand d 0) d m m work es es 0
cases_none d m work es = learns_nothing (CasesDemand d 0) d m work es (λ key a. absurd (omega (arith, a.within.0, a.within.1)))

cases_to : (d : Says) (c : ℕ) (key : Run) → Either (CasesDemand d c) (RoundDemands d (c + 1) 20) key → CasesDemand d (c + 1) key
cases_to d c key (inl a) = record { case = a.case; within = (a.within.0, omega (arith, a.within.1)); asked = a.asked }
cases_to d c key (inr a) = record { case = c + 1; within = (omega arith, omega arith); asked = a }

cases_from : (d : Says) (c : ℕ) (key : Run) → CasesDemand d (c + 1) key → Either (CasesDemand d c) (RoundDemands d (c + 1) 20) key
cases_from d c key a =
    ⊎_elim
    (λ below. inl (record { case = a.case; within = (a.within.0, omega (arith, below)); asked = a.asked }))
    (λ above.
    let same : a.case ≡ c + 1 = omega (arith, a.within.1, above) in
    inr (subst (λ (n : ℕ). RoundDemands d n 20 key) same a.asked))
    (cases_lt a.case (c + 1))

pub cases_more : {X : Type 0} (d : Says) (c : ℕ) (m n o : MemoryIs) (work : X → Work) (es fs gs : List X) → Learns (Unit {0}) (CasesDemand d c) d m n work es fs 0
    → Learns (Unit {0}) (RoundDemands d (c + 1) 20) d n o work fs gs 0 → Learns (Unit {0}) (CasesDemand d (c + 1)) d m o work es gs 0
cases_more d c m n o work es fs gs before one =
    learns_by (Unit {0}) (Unit {0}) (Either (CasesDemand d c) (RoundDemands d (c + 1) 20)) (CasesDemand d (c + 1)) d m o work es gs 0 (λ t. t) (cases_to d c) (cases_from d c)
    (learns_on (CasesDemand d c) (RoundDemands d (c + 1) 20) d m n o work es fs gs before one)

pub cases_lost : {X : Type 0} (d : Says) (c most : ℕ) (m n o : MemoryIs) (work : X → Work) (es fs gs : List X) → c < most → Learns (Unit {0}) (CasesDemand d c) d m n work es fs 0
    → IsLost (Unit {0}) (RoundDemands d (c + 1) 20) d n o work fs gs → IsLost (Unit {0}) (CasesDemand d most) d m o work es gs
cases_lost d c most m n o work es fs gs less before one =
    lost_by (Unit {0}) (Unit {0}) (Either (CasesDemand d c) (RoundDemands d (c + 1) 20)) (CasesDemand d most) d m o work es gs (λ t. t)
    (λ key a. let its = cases_to d c key a in record { case = its.case; within = (its.within.0, omega (arith, its.within.1, less)); asked = its.asked })
    (lost_on (CasesDemand d c) (RoundDemands d (c + 1) 20) d m n o work es fs gs before one)

-- ---- a deck

pub deck_learns : {X : Type 0} (d : Says) (m n : MemoryIs) (work : X → Work) (es fs : List X) → HasNoFault d → Learns (Unit {0}) (CasesDemand d (cases d)) d m n work es fs 0 → Learns (HasNoFault d) (SearchDemands d) d m n work es fs 0
deck_learns d m n work es fs faultless l =
    learns_by (Unit {0}) (HasNoFault d) (CasesDemand d (cases d)) (SearchDemands d) d m n work es fs 0 (λ t. faultless)
    (λ key a. record { faultless = faultless; case = a.case; within = a.within; asked = a.asked }) (λ key a. record { case = a.case; within = a.within; asked = a.asked }) l

pub deck_lost : {X : Type 0} (d : Says) (m n : MemoryIs) (work : X → Work) (es fs : List X) → HasNoFault d → IsLost (Unit {0}) (CasesDemand d (cases d)) d m n work es fs → IsLost (HasNoFault d) (SearchDemands d) d m n work es fs
deck_lost d m n work es fs faultless l =
    lost_by (Unit {0}) (HasNoFault d) (CasesDemand d (cases d)) (SearchDemands d) d m n work es fs (λ t. faultless)
    (λ key a. record { faultless = faultless; case = a.case; within = a.within; asked = a.asked }) l

pub deck_told : {X Z : Type 0} (d : Says) (m n : MemoryIs) (work : X → Work) (es fs : List X) (said now : Vec ℕ Z) → HasNoFault d → IsSaid (λ t. AreCasesSearched d (cases d) (plain t)) said now
    → Learns (Unit {0}) (CasesDemand d (cases d)) d m n work es fs 0 → Tells (IsDeckSearched d) (HasNoFault d) (SearchDemands d) d m n work es fs said now 0
deck_told d m n work es fs said now faultless told l = record {
  told = plain told.rest;
  is_told = inr (faultless, told.is);
  text = told.text;
  nos = refl;
  learns = deck_learns d m n work es fs faultless l;
}

-- a deck with a fault is not searched
pub fault_told : {X Z : Type 0} (d : Says) (fault : DeckFault) (m : MemoryIs) (work : X → Work) (es : List X) (said now : Vec ℕ Z) → IsFaultOf d fault → (HasNoFault d → ⊥)
    → now.items ≡ said.items ++ refusal_line (Deck fault) → Tells (IsDeckSearched d) (HasNoFault d) (SearchDemands d) d m m work es es said now 0
fault_told d fault m work es said now is met text = record {
  told = plain (refusal_line (Deck fault));
  is_told = inl (record { fault = fault; is_of = is; is = refl });
  text = text;
  nos = refl;
  learns = learns_none (HasNoFault d) (SearchDemands d) d m work es met (λ key a. met a.faultless);
}

-- the same deck, checked
pub deck_told_as : {X Z T F : Type 0} (a b : List Statement) (res : Result T F) (m n : MemoryIs) (work : X → Work) (es fs : List X) (said now : Vec ℕ Z) → a ≡ b
    → OnOk res (Tells (IsDeckSearched (body_of a)) (HasNoFault (body_of a)) (SearchDemands (body_of a)) (body_of a) m n work es fs said now 0)
    → OnOk res (Tells (IsDeckSearched (body_of b)) (HasNoFault (body_of b)) (SearchDemands (body_of b)) (body_of b) m n work es fs said now 0)
deck_told_as a b res m n work es fs said now same told =
    subst (λ (z : List Statement). OnOk res (Tells (IsDeckSearched (body_of z)) (HasNoFault (body_of z)) (SearchDemands (body_of z)) (body_of z) m n work es fs said now 0)) same told

pub deck_lost_as : {X T F : Type 0} (a b : List Statement) (res : Result T F) (m n : MemoryIs) (work : X → Work) (es fs : List X) → a ≡ b
    → OnErr res (IsLost (HasNoFault (body_of a)) (SearchDemands (body_of a)) (body_of a) m n work es fs) → OnErr res (IsLost (HasNoFault (body_of b)) (SearchDemands (body_of b)) (body_of b) m n work es fs)
deck_lost_as a b res m n work es fs same lost =
    subst (λ (z : List Statement). OnErr res (IsLost (HasNoFault (body_of z)) (SearchDemands (body_of z)) (body_of z) m n work es fs)) same lost

pub few_told : {X : Type 0} (A : Run → Type 0) (d : Says) (m n : MemoryIs) (work : X → Work) (es fs : List X) → years d ≤ 30 → IsShelf n.shelf → length n.shelf.kept ≤ length m.shelf.kept + 2400000
    → Learns (Unit {0}) A d m n work es fs 0 → GainsFew 2400000 m n
few_told A d m n work es fs most shelf few learns = record { systems = few_years d m.shelf n.shelf shelf most learns.gains.grown; rows = few }
