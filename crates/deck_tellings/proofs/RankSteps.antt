-- What is told of the best plans of cases, and what is learnt for them, one case after the other.
use Rattle.std.proofs.Common.{◌≡◌, ◌∙◌, ap, sym, refl, subst, ℕ, ◌+◌, ◌*◌, ◌<◌, ◌≤◌, ◌⊎◌, inl, inr, ⊎_elim, List, [], ◌∷◌, ◌++◌, length, add-one, append-nil, append_assoc, arith}
use Rattle.std.proofs.lemmas.Bool.{cases_lt}
use Rattle.std.specs.Prelude.{Vec}
use Rattle.best_plans.specs.Best.{FirstIsChosen, IsRanking}
use Rattle.best_plans.specs.declared.ranked.Ranked.{Ranked}
use Rattle.cost_terms.specs.Table.{Table}
use Rattle.deck_check.specs.DeckFault.{FaultsAreMet, HasNoFault, IsFaultOf}
use Rattle.deck_check.specs.Readings.{Says, cases, years}
use Rattle.deck_check.specs.declared.fault.DeckFault.{DeckFault}
use Rattle.plan_program.specs.Chosen.{IsOutcome}
use Rattle.plan_program.specs.declared.solved.Outcome.{Outcome}
use Rattle.plan_program.specs.declared.solved.Outcome.TheVariants.{Plan}
use Rattle.report_text.specs.Ranking.{case_head, over_text, ranked_text, ranking_text}
use Rattle.report_text.specs.Refusals.{refusal_line}
use Rattle.report_text.specs.declared.refusals.Refusal.{Refusal}
use Rattle.report_text.specs.declared.refusals.Refusal.TheVariants.{Deck}
use Rattle.row_shelf.specs.Shelf.{IsShelf}
use Rattle.sim_engine.specs.Engine.{Run, Work}
use Rattle.deck_tellings.specs.Inner.{HasTable}
use Rattle.case_study.specs.Keys.{DemandsUnder}
use Rattle.case_study.specs.Listings.{AreWithin, IsOverIn, deck_tunnels}
use Rattle.deck_tellings.specs.Ranks.{AreCasesRanked, AsksUpTo, BestDemands, IsCaseRanked, IsDeckRanked, TellsPlain}
use Rattle.deck_tellings.specs.Memory.{MemoryIs}
use Rattle.deck_tellings.specs.Learning.{GainsFew, HasPlaceFor, HasRoomFor, IsLost, Learns, Tells}
use Rattle.deck_tellings.specs.Told.{plain}
use Rattle.deck_tellings.proofs.LearnSteps.{learns_none}
use Rattle.deck_tellings.proofs.LearnThen.{few_both, learns_both, lost_both}
use Rattle.deck_tellings.proofs.TellBehind.{learns_by, lost_by}

-- ---- a case

-- its plans
pub plans_told : {Z : Type 0} (d : Says) (k c : ℕ) (table : Table) (ranking : List Ranked) (a b : Vec ℕ Z) → HasTable d c (deck_tunnels d c) table → IsRanking table k ranking → FirstIsChosen table ranking
    → 1 ≤ length ranking → b.items ≡ a.items ++ (case_head c ++ ranked_text ranking) → TellsPlain (IsCaseRanked d k c) a b
plans_told d k c table [] a b has is first some text = absurd (omega (arith, some))
plans_told d k c table (r ∷ others) a b has is first some text =
    let outcome = Plan r.configs r.total in record {
      more = ranking_text c outcome (r ∷ others);
      is_told = inr (record { within = has.within; table = table; is_table = has.is; outcome = outcome; is_outcome = first; ranking = r ∷ others; is_ranking = is; is = refl });
      text = text;
    }

-- or the first year that no plan reaches
pub no_plan_told : {Z : Type 0} (d : Says) (k c : ℕ) (table : Table) (outcome : Outcome) (ranking : List Ranked) (a b : Vec ℕ Z) → HasTable d c (deck_tunnels d c) table → IsRanking table k ranking → IsOutcome table outcome
    → length ranking ≡ 0 → b.items ≡ a.items ++ ranking_text c outcome [] → TellsPlain (IsCaseRanked d k c) a b
no_plan_told d k c table outcome [] a b has is is_outcome none text = record {
  more = ranking_text c outcome [];
  is_told = inr (record { within = has.within; table = table; is_table = has.is; outcome = outcome; is_outcome = is_outcome; ranking = []; is_ranking = is; is = refl });
  text = text;
}
no_plan_told d k c table outcome (r ∷ others) a b has is is_outcome none text = absurd (omega (arith, none))

-- or a year over a limit
pub over_told : {Z : Type 0} (d : Says) (k c : ℕ) (r : Refusal) (a b : Vec ℕ Z) → IsOverIn d c (deck_tunnels d c) r → b.items ≡ a.items ++ over_text c r → TellsPlain (IsCaseRanked d k c) a b
over_told d k c r a b over text = record { more = over_text c r; is_told = inl (record { refusal = r; over = over; is = refl }); text = text }

-- ---- the first cases

pub none_ranked : {Z : Type 0} (d : Says) (k : ℕ) (a : Vec ℕ Z) → TellsPlain (AreCasesRanked d k 0) a a
none_ranked d k a = record { more = []; is_told = refl; text = sym (append-nil a.items) }

pub ranked_more : {Z : Type 0} (d : Says) (k c : ℕ) (a b e : Vec ℕ Z) → TellsPlain (AreCasesRanked d k c) a b → TellsPlain (IsCaseRanked d k (c + 1)) b e → TellsPlain (AreCasesRanked d k (c + 1)) a e
ranked_more d k c a b e one other =
    let last = subst (λ (n : ℕ). IsCaseRanked d k n (plain other.more)) (add-one c) other.is_told in
    record {
      more = one.more ++ other.more;
      is_told = subst (λ (n : ℕ). AreCasesRanked d k n (plain (one.more ++ other.more))) (sym (add-one c))
          (record { one = plain one.more; other = plain other.more; is_one = one.is_told; is_other = last; is = refl });
      text = other.text ∙ ap (λ (t : List ℕ). t ++ other.more) one.text ∙ append_assoc a.items one.more other.more;
    }

-- ---- what is learnt for them

pub none_asked : {X : Type 0} (d : Says) (m : MemoryIs) (work : X → Work) (es : List X) → Learns (HasNoFault d) (AsksUpTo d 0) d m m work es es 0
none_asked d m work es =
    let no : (key : Run) → AsksUpTo d 0 key → ⊥ = λ key is. absurd (omega (arith, is.within, is.asked.1.is_of.case.0)) in
    learns_by ⊥ (HasNoFault d) (AsksUpTo d 0) (AsksUpTo d 0) d m m work es es 0 (λ never. absurd never) (λ key is. is) (λ key is. is)
    (learns_none ⊥ (AsksUpTo d 0) d m work es (λ never. never) no)

asked_of : (d : Says) (c : ℕ) (key : Run) → AsksUpTo d c key ⊎ DemandsUnder d (c + 1) (deck_tunnels d (c + 1)) key → AsksUpTo d (c + 1) key
asked_of d c key (inl is) = record { case = is.case; within = omega (arith, is.within); asked = is.asked }
asked_of d c key (inr is) = record { case = c + 1; within = omega arith; asked = is }

of_asked : (d : Says) (c : ℕ) (key : Run) → AsksUpTo d (c + 1) key → AsksUpTo d c key ⊎ DemandsUnder d (c + 1) (deck_tunnels d (c + 1)) key
of_asked d c key is =
    ⊎_elim (λ (below : is.case < c + 1). inl (record { case = is.case; within = omega (arith, below); asked = is.asked }))
    (λ (above : c + 1 ≤ is.case).
    let same : is.case ≡ c + 1 = omega (arith, above, is.within) in
    inr (subst (λ (n : ℕ). DemandsUnder d n (deck_tunnels d n) key) same is.asked))
    (cases_lt is.case (c + 1))

pub learns_more : {X : Type 0} (d : Says) (c : ℕ) (m1 m2 m3 : MemoryIs) (work : X → Work) (es fs gs : List X) → HasNoFault d
    → Learns (HasNoFault d) (AsksUpTo d c) d m1 m2 work es fs 0
    → Learns (AreWithin d (c + 1) (deck_tunnels d (c + 1))) (DemandsUnder d (c + 1) (deck_tunnels d (c + 1))) d m2 m3 work fs gs 0
    → Learns (HasNoFault d) (AsksUpTo d (c + 1)) d m1 m3 work es gs 0
learns_more d c m1 m2 m3 work es fs gs faultless one other =
    let B = DemandsUnder d (c + 1) (deck_tunnels d (c + 1)) in
    let second = learns_by (AreWithin d (c + 1) (deck_tunnels d (c + 1))) (HasNoFault d) B B d m2 m3 work fs gs 0 (λ within. faultless) (λ key is. is) (λ key is. is) other in
    learns_by (HasNoFault d) (HasNoFault d) (λ key. AsksUpTo d c key ⊎ B key) (AsksUpTo d (c + 1)) d m1 m3 work es gs 0 (λ t. t) (asked_of d c) (of_asked d c)
    (learns_both (HasNoFault d) (AsksUpTo d c) B d m1 m2 m3 work es fs gs 0 0 one second)

best_of : (d : Says) (c : ℕ) (key : Run) → HasNoFault d → AsksUpTo d c key → BestDemands d key
best_of d c key faultless is = record { faultless = faultless; case = is.case; asked = is.asked }

pub lost_more : {X : Type 0} (d : Says) (c : ℕ) (m1 m2 m3 : MemoryIs) (work : X → Work) (es fs gs : List X) → HasNoFault d
    → Learns (HasNoFault d) (AsksUpTo d c) d m1 m2 work es fs 0
    → IsLost (AreWithin d (c + 1) (deck_tunnels d (c + 1))) (DemandsUnder d (c + 1) (deck_tunnels d (c + 1))) d m2 m3 work fs gs
    → IsLost (HasNoFault d) (BestDemands d) d m1 m3 work es gs
lost_more d c m1 m2 m3 work es fs gs faultless one other =
    let B = DemandsUnder d (c + 1) (deck_tunnels d (c + 1)) in
    let second = lost_by (AreWithin d (c + 1) (deck_tunnels d (c + 1))) (HasNoFault d) B B d m2 m3 work fs gs (λ within. faultless) (λ key is. is) other in
    lost_by (HasNoFault d) (HasNoFault d) (λ key. AsksUpTo d c key ⊎ B key) (BestDemands d) d m1 m3 work es gs (λ t. t)
    (λ key is. best_of d (c + 1) key faultless (asked_of d c key is))
    (lost_both (HasNoFault d) (AsksUpTo d c) B d m1 m2 m3 work es fs gs 0 one second)

-- ---- the room

pub few_none : (m : MemoryIs) → GainsFew (15000 * 0) m m
few_none m = record { systems = omega arith; rows = omega arith }

pub few_more : {X : Type 0} (d : Says) (c : ℕ) (m1 m2 m3 : MemoryIs) (work : X → Work) (es gs : List X) → years d ≤ 30 → IsShelf m3.shelf → Learns (HasNoFault d) (AsksUpTo d (c + 1)) d m1 m3 work es gs 0
    → GainsFew (15000 * c) m1 m2 → GainsFew 15000 m2 m3 → GainsFew (15000 * (c + 1)) m1 m3
few_more d c m1 m2 m3 work es gs few is learns one other =
    let both = few_both (HasNoFault d) (AsksUpTo d (c + 1)) d (15000 * c) 15000 m1 m2 m3 few is learns.gains one other in
    record { systems = both.systems; rows = omega (arith, both.rows) }

pub room_for : (c n : ℕ) (m1 m2 : MemoryIs) → c < n → n ≤ 8 → HasPlaceFor 120000 m1 → GainsFew (15000 * c) m1 m2 → HasRoomFor 15000 m2
room_for c n m1 m2 before few place gains = record {
  systems = omega (arith, place.systems, gains.systems);
  rows = omega (arith, place.rows, gains.rows, before, few);
}

pub few_all : (n : ℕ) (m1 m2 : MemoryIs) → n ≤ 8 → GainsFew (15000 * n) m1 m2 → GainsFew 120000 m1 m2
few_all n m1 m2 few gains = record { systems = gains.systems; rows = omega (arith, gains.rows, few) }

-- ---- a deck

pub deck_ranked : {X Z : Type 0} (d : Says) (k c : ℕ) (m n : MemoryIs) (work : X → Work) (es fs : List X) (said said_now : Vec ℕ Z) → HasNoFault d → c ≡ cases d
    → TellsPlain (AreCasesRanked d k c) said said_now → Learns (HasNoFault d) (AsksUpTo d c) d m n work es fs 0
    → Tells (IsDeckRanked k d) (HasNoFault d) (BestDemands d) d m n work es fs said said_now 0
deck_ranked d k c m n work es fs said said_now faultless all told learns = record {
  told = plain told.more;
  is_told = inr (faultless, subst (λ (z : ℕ). AreCasesRanked d k z (plain told.more)) all told.is_told);
  text = told.text;
  nos = refl;
  learns = learns_by (HasNoFault d) (HasNoFault d) (AsksUpTo d c) (BestDemands d) d m n work es fs 0 (λ t. t) (λ key is. best_of d c key faultless is)
      (λ key is. record { case = is.case; within = omega (arith, all, is.asked.1.is_of.case.1); asked = is.asked }) learns;
}

pub fault_told : {X Z : Type 0} (d : Says) (k : ℕ) (fault : DeckFault) (m : MemoryIs) (work : X → Work) (es : List X) (said said_now : Vec ℕ Z) → FaultsAreMet → IsFaultOf d fault
    → said_now.items ≡ said.items ++ refusal_line (Deck fault) → Tells (IsDeckRanked k d) (HasNoFault d) (BestDemands d) d m m work es es said said_now 0
fault_told d k fault m work es said said_now met is text = record {
  told = plain (refusal_line (Deck fault));
  is_told = inl (record { fault = fault; is_of = is; is = refl });
  text = text;
  nos = refl;
  learns = learns_none (HasNoFault d) (BestDemands d) d m work es (λ faultless. met d fault is faultless) (λ key asked. met d fault is asked.faultless);
}
