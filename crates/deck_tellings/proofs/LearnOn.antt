-- Two calls that learn, one after the other, on one deck.
use Rattle.std.proofs.Common.{◌∙◌, ◌≢◌, ap, sym, subst, inl, inr, ⊎_elim, ℕ, suc, ◌+◌, ◌-◌, ◌<◌, ◌≤◌, ◌⊎◌, refl, AllPairs, Contains, List, [], ◌∷◌, ◌++◌, length, map, arith, append_assoc, length-append}
use Rattle.std.specs.List.{range_with_len}
use Rattle.std.proofs.lemmas.List.Elements.{All-append, All-contains, All-contains_itself, All-weaker, Contains-append_cases, Contains-append_left, Contains-append_right}
use Rattle.std.proofs.lemmas.List.FromFn.{get_or-map-range_with_len, length-map-range_with_len}
use Rattle.std.proofs.lemmas.List.Kept.{AllPairs-cons}
use Rattle.checked_deck.specs.Systems.{system}
use Rattle.deck_check.specs.Readings.{Says, years}
use Rattle.row_shelf.specs.Adds.{Adds}
use Rattle.row_shelf.specs.Shelf.{Grows, IsShelf, ShelfIs}
use Rattle.sim_engine.specs.Engine.{Run, Work, raised}
use Rattle.sim_engine.proofs.CountSteps.{raised_then}
use Rattle.sim_sweep.proofs.TogetherSteps.{together_then}
use Rattle.deck_tellings.proofs.ApartSteps.{apart_behind, no_longer}
use Rattle.deck_tellings.specs.Memory.{MemoryIs}
use Rattle.deck_tellings.specs.Learning.{IsLost, Learns, OnlyGains}
use Rattle.case_study.specs.Studies.{IsSystemOf}
use Rattle.year_system.specs.System.{System}

abbrev pub Either : (Run → Type 0) → (Run → Type 0) → Run → Type 0
Either A B key = A key ⊎ B key

gains_on : (A B : Run → Type 0) (d : Says) (r s t : ShelfIs) → OnlyGains (Unit {0}) A d r s → OnlyGains (Unit {0}) B d s t → OnlyGains (Unit {0}) (Either A B) d r t
gains_on A B d r s t one other = record {
  grown = record {
    more = one.grown.more ++ other.grown.more;
    is = other.grown.is ∙ (ap (λ (b : List System). b ++ other.grown.more) one.grown.is ∙ append_assoc r.book one.grown.more other.grown.more);
    each = All-append (IsSystemOf d) one.grown.more other.grown.more one.grown.each other.grown.each;
  };
  stays = λ key has. other.stays key (one.stays key has);
  only = λ key has. ⊎_elim (λ mid. ⊎_elim (λ old. inl old) (λ a. inr (inl a)) (one.only key mid)) (λ b. inr (inr b)) (other.only key has);
  still = λ none. absurd (none tt);
}

-- lists of which no element of the one is in the other
apart_both : (xs ys : List Run) → AllPairs (λ one other. one ≢ other) xs → AllPairs (λ one other. one ≢ other) ys → ((x : Run) → Contains xs x → Contains ys x → ⊥) → AllPairs (λ one other. one ≢ other) (xs ++ ys)
apart_both [] ys one other cross = other
apart_both (x ∷ xs) ys one other cross =
    AllPairs-cons (λ one other. one ≢ other) x (xs ++ ys)
    (All-append (λ z. x ≢ z) xs ys
    (All-weaker (Contains xs) (λ z. x ≢ z) (λ z has same. one 0 (suc has.0) z (omega arith) (omega (arith, has.1)) (same ∙ sym has.2)) xs (All-contains_itself xs))
    (All-weaker (Contains ys) (λ z. x ≢ z) (λ z has same. cross x (0, omega arith, refl) (subst (Contains ys) (sym same) has)) ys (All-contains_itself ys)))
    (apart_both xs ys (λ i j e less within. one (suc i) (suc j) e (omega (arith, less)) (omega (arith, within))) other (λ z has there. cross z (suc has.0, omega (arith, has.1), has.2) there))

adds_on : (A B : Run → Type 0) (r s t : ShelfIs) (xs ys : List Run) → Adds A r s xs → Adds B s t ys → Adds (Either A B) r t (xs ++ ys)
adds_on A B r s t xs ys one other = record {
  once = apart_both xs ys one.once other.once (λ key has there. other.fresh key there (one.stand key has));
  fresh = λ key has held. ⊎_elim (λ first. one.fresh key first held) (λ last. other.fresh key last (one.stays key held)) (Contains-append_cases xs ys key has);
  asked = λ key has. ⊎_elim (λ first. inl (one.asked key first)) (λ last. inr (other.asked key last)) (Contains-append_cases xs ys key has);
  all = λ key asked. ⊎_elim
      (λ a. ⊎_elim (λ old. inl old) (λ new. inr (Contains-append_left xs ys key new)) (one.all key a))
      (λ b. ⊎_elim (λ mid. ⊎_elim (λ old. inl old) (λ new. inr (Contains-append_left xs ys key new)) (one.only key mid)) (λ new. inr (Contains-append_right xs ys key new)) (other.all key b))
      asked;
  stays = λ key held. other.stays key (one.stays key held);
  stand = λ key has. ⊎_elim (λ first. other.stays key (one.stand key first)) (λ last. other.stand key last) (Contains-append_cases xs ys key has);
  only = λ key held. ⊎_elim (λ mid. ⊎_elim (λ old. inl old) (λ new. inr (Contains-append_left xs ys key new)) (one.only key mid)) (λ new. inr (Contains-append_right xs ys key new)) (other.only key held);
  many = omega (arith, one.many, other.many, length-append xs ys);
}

pub learns_on : {X : Type 0} (A B : Run → Type 0) (d : Says) (r s t : MemoryIs) (work : X → Work) (es fs gs : List X) → Learns (Unit {0}) A d r s work es fs 0 → Learns (Unit {0}) B d s t work fs gs 0
    → Learns (Unit {0}) (Either A B) d r t work es gs 0
learns_on A B d r s t work es fs gs one other = record {
  gains = gains_on A B d r.shelf s.shelf t.shelf one.gains other.gains;
  new = one.new ++ other.new;
  adds = adds_on A B r.shelf s.shelf t.shelf one.new other.new one.adds other.adds;
  worked = together_then one.new other.new 0 0 (map work es) (map work fs) (map work gs) one.worked other.worked;
  tally = other.tally ∙ (ap (λ (n : ℕ). raised (length other.new) n) one.tally ∙ (raised_then (length one.new) (length other.new) r.tally ∙ ap (λ (n : ℕ). raised n r.tally) (sym (length-append one.new other.new))));
}

-- memory was wanting behind a call that learnt
pub lost_on : {X : Type 0} (A B : Run → Type 0) (d : Says) (r s t : MemoryIs) (work : X → Work) (es fs gs : List X) → Learns (Unit {0}) A d r s work es fs 0 → IsLost (Unit {0}) B d s t work fs gs
    → IsLost (Unit {0}) (Either A B) d r t work es gs
lost_on A B d r s t work es fs gs one other = record {
  gains = gains_on A B d r.shelf s.shelf t.shelf one.gains other.gains;
  gone = record {
    keys = one.new ++ other.gone.keys;
    years = 0 + other.gone.years;
    worked = together_then one.new other.gone.keys 0 other.gone.years (map work es) (map work fs) (map work gs) one.worked other.gone.worked;
    rose = other.gone.rose ∙ (ap (λ (n : ℕ). raised (length other.gone.keys) n) one.tally ∙ (raised_then (length one.new) (length other.gone.keys) r.tally ∙ ap (λ (n : ℕ). raised n r.tally) (sym (length-append one.new other.gone.keys))));
  };
}

-- ---- the systems of one deck's years are few, over however many calls

year_systems : Says → List System
year_systems d = map (system d) (range_with_len 1 (years d))

among_years : (d : Says) (s : System) → IsSystemOf d s → Contains (year_systems d) s
unfolding year_systems
among_years d s is =
    let within : is.year - 1 < years d = omega (arith, is.within.0, is.within.1) in
    let at = get_or-map-range_with_len (system d) 1 (years d) (is.year - 1) is.year s within (omega (arith, is.within.0)) in
    (is.year - 1, omega (arith, within, length-map-range_with_len (system d) 1 (years d)), at ∙ sym is.is)

pub few_years : (d : Says) (before now : ShelfIs) → IsShelf now → years d ≤ 30 → Grows (IsSystemOf d) before.book now.book → length now.book ≤ length before.book + 30
unfolding year_systems
few_years d before now is most grown =
    let apart = apart_behind before.book grown.more (subst (λ (b : List System). AllPairs (λ one other. one ≢ other) b) grown.is is.apart) in
    let few = no_longer grown.more (year_systems d) apart (λ z has. among_years d z (All-contains (IsSystemOf d) grown.more z grown.each has)) in
    let long = ap length grown.is ∙ length-append before.book grown.more in
    omega (arith, few, long, most, length-map-range_with_len (system d) 1 (years d))
