-- What a PLAN tells: a refusal, or the reports of its cases, behind its heading.
use Rattle.std.proofs.Common.{◌≡◌, ◌∙◌, ap, sym, refl, ℕ, inl, inr, List, [], ◌++◌, map, append-nil, append_assoc, Result, Ok, Err}
use Rattle.std.specs.Prelude.{OnErr, OnOk, Vec}
use Rattle.deck_check.specs.DeckFault.{HasNoFault}
use Rattle.deck_check.specs.Readings.{Says, cases}
use Rattle.report_text.specs.Refusals.{refusal_line}
use Rattle.report_text.specs.declared.refusals.Refusal.{Refusal}
use Rattle.sim_engine.specs.Engine.{Work}
use Rattle.deck_tellings.specs.Inner.{GoesOn, TellsByFirst}
use Rattle.case_study.specs.Inner.{HaveDetailed, IsOfLists}
use Rattle.case_study.specs.Keys.{Demands}
use Rattle.case_study.specs.Listings.{IsRefusalOf, IsTaken}
use Rattle.deck_tellings.specs.Said.{AreCasesTold, IsDeckTold}
use Rattle.deck_tellings.specs.Memory.{MemoryIs}
use Rattle.deck_tellings.specs.Learning.{IsLost, Learns, Tells}
use Rattle.case_study.specs.Studies.{AreCaseLists}
use Rattle.deck_tellings.specs.Told.{plain}
use Rattle.deck_tellings.proofs.LearnSteps.{learns_as, learns_none, lost_as, lost_of}
use Rattle.deck_tellings.proofs.ListedKeys.{asks_deck, deck_asks, is_taken}
use Rattle.deck_tellings.proofs.TellBehind.{learns_then, lost_then}

-- ---- a deck

pub refusal_told : {X Z : Type 0} (d : Says) (r : Refusal) (m : MemoryIs) (work : X → Work) (es : List X) (said said_now : Vec ℕ Z) → IsRefusalOf d r → (IsTaken d → ⊥)
    → said_now.items ≡ said.items ++ refusal_line r → Tells (IsDeckTold d) (IsTaken d) (Demands d) d m m work es es said said_now 0
refusal_told d r m work es said said_now is refused text = record {
  told = plain (refusal_line r);
  is_told = inl (record { refusal = r; is_of = is; is = refl });
  text = text;
  nos = refl;
  learns = learns_none (IsTaken d) (Demands d) d m work es refused (λ key demanded. refused demanded.0);
}

-- what is learnt of listed cases is what the deck demands
pub deck_learns : {X : Type 0} (d : Says) (all : List (List (List (List ℕ)))) (m n : MemoryIs) (work : X → Work) (es fs : List X) → HasNoFault d → AreCaseLists d all
    → Learns (Unit {0}) (IsOfLists d all) d m n work es fs 0 → Learns (IsTaken d) (Demands d) d m n work es fs 0
deck_learns d all m n work es fs faultless are l =
    learns_as (IsTaken d) (IsOfLists d all) (Demands d) d m n work es fs 0 (is_taken d all faultless are)
    (λ key is. deck_asks d all key faultless are is) (λ key is. asks_deck d all key are is) l

pub deck_lost : {X : Type 0} (d : Says) (all : List (List (List (List ℕ)))) (m n : MemoryIs) (work : X → Work) (es fs : List X) → HasNoFault d → AreCaseLists d all
    → IsLost (Unit {0}) (IsOfLists d all) d m n work es fs → IsLost (IsTaken d) (Demands d) d m n work es fs
deck_lost d all m n work es fs faultless are l =
    lost_as (IsTaken d) (IsOfLists d all) (Demands d) d m n work es fs (is_taken d all faultless are) (λ key is. deck_asks d all key faultless are is) l

pub deck_told : {X Z : Type 0} (d : Says) (all : List (List (List (List ℕ)))) (m n : MemoryIs) (work : X → Work) (es fs gs : List X) (said said_now : Vec ℕ Z) → HasNoFault d → AreCaseLists d all
    → Learns (Unit {0}) (IsOfLists d all) d m n work es fs 0 → TellsByFirst (AreCasesTold d (cases d)) work fs gs said said_now
    → Tells (IsDeckTold d) (IsTaken d) (Demands d) d m n work es gs said said_now 0
deck_told d all m n work es fs gs said said_now faultless are l t = record {
  told = t.told;
  is_told = inr (record { taken = is_taken d all faultless are; cases = t.is_told });
  text = t.text;
  nos = t.nos;
  learns = learns_then (IsTaken d) (Demands d) d m n work es fs gs t.told.details (deck_learns d all m n work es fs faultless are l) t.worked;
}

pub deck_lost_telling : {X : Type 0} (d : Says) (all : List (List (List (List ℕ)))) (m n : MemoryIs) (work : X → Work) (es fs gs : List X) → HasNoFault d → AreCaseLists d all
    → Learns (Unit {0}) (IsOfLists d all) d m n work es fs 0 → HaveDetailed (map work fs) (map work gs) → IsLost (IsTaken d) (Demands d) d m n work es gs
deck_lost_telling d all m n work es fs gs faultless are l t =
    lost_then (IsTaken d) (Demands d) d m n work es fs gs (lost_of (IsTaken d) (Demands d) d m n work es fs 0 (deck_learns d all m n work es fs faultless are l)) t

-- ---- the text

pub goes_not : {Z : Type 0} (a b : Vec ℕ Z) → b.items ≡ a.items → GoesOn a b
goes_not a b e = record { more = []; is = e ∙ sym (append-nil a.items) }

-- text was appended, or an error left it as it was
pub goes_either : {T E Z : Type 0} (r : Result T E) (a b : Vec ℕ Z) (text : List ℕ) → OnOk r (b.items ≡ a.items ++ text) → OnErr r (b.items ≡ a.items) → GoesOn a b
goes_either (Ok x) a b text appended kept = record { more = text; is = appended }
goes_either (Err e) a b text appended kept = goes_not a b kept

pub goes_then : {Z : Type 0} (a b c : Vec ℕ Z) (text : List ℕ) → b.items ≡ a.items ++ text → GoesOn b c → GoesOn a c
goes_then a b c text e g = record { more = text ++ g.more; is = g.is ∙ ap (λ (t : List ℕ). t ++ g.more) e ∙ append_assoc a.items text g.more }
