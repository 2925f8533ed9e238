-- Calls that learn, one after the other: what they learn together, and how few systems of one deck's years come.
use Rattle.std.proofs.Common.{◌≡◌, ◌≢◌, ◌∙◌, ap, sym, refl, subst, ℕ, zero, suc, ◌+◌, ◌-◌, ◌<◌, ◌≤◌, ◌⊎◌, inl, inr, ⊎_elim, List, [], ◌∷◌, ◌++◌, AllPairs, Contains, length, get_or, map, append_assoc, arith}
use Rattle.std.specs.List.{range_with_len}
use Rattle.std.proofs.lemmas.List.{get_or_default, length-append}
use Rattle.std.proofs.lemmas.List.Elements.{All-append, All-contains, Contains-append_cases, Contains-append_left, Contains-append_right}
use Rattle.std.proofs.lemmas.List.FromFn.{get_or-map-range_with_len, length-map-range_with_len}
use Rattle.checked_deck.specs.Systems.{system}
use Rattle.deck_check.specs.Readings.{Says, years}
use Rattle.row_shelf.specs.Adds.{Adds}
use Rattle.row_shelf.specs.Shelf.{IsShelf, ShelfIs}
use Rattle.sim_engine.proofs.CountSteps.{raised_then}
use Rattle.sim_engine.specs.Engine.{Run, Work, raised}
use Rattle.sim_sweep.proofs.TogetherSteps.{together_then}
use Rattle.deck_tellings.proofs.ApartSteps.{apart_behind, no_longer}
use Rattle.deck_tellings.specs.Memory.{MemoryIs}
use Rattle.deck_tellings.specs.Learning.{GainsFew, IsLost, Learns, OnlyGains}
use Rattle.case_study.specs.Studies.{IsSystemOf}
use Rattle.year_system.specs.System.{System}

-- ---- lists whose elements are apart

cons_apart : {X : Type 0} (x : X) (zs : List X) → ((z : X) → Contains zs z → x ≢ z) → AllPairs (λ one other. one ≢ other) zs → AllPairs (λ one other. one ≢ other) (x ∷ zs)
cons_apart x zs first rest zero zero d less within = absurd (omega (arith, less))
cons_apart x zs first rest zero (suc j) d less within =
    let inside : j < length zs = omega (arith, within) in
    first (get_or zs j d) (j, inside, get_or_default zs j (get_or zs j d) d inside)
cons_apart x zs first rest (suc i) zero d less within = absurd (omega (arith, less))
cons_apart x zs first rest (suc i) (suc j) d less within = rest i j d (omega (arith, less)) (omega (arith, within))

both_apart : {X : Type 0} (xs ys : List X) → AllPairs (λ one other. one ≢ other) xs → AllPairs (λ one other. one ≢ other) ys → ((z : X) → Contains xs z → Contains ys z → ⊥) → AllPairs (λ one other. one ≢ other) (xs ++ ys)
both_apart [] ys one other cross = other
both_apart (x ∷ xs) ys one other cross =
    cons_apart x (xs ++ ys)
    (λ z has. ⊎_elim
    (λ here. λ same. one 0 (suc here.0) z (omega arith) (omega (arith, here.1)) (same ∙ sym here.2))
    (λ there. λ same. cross x (0, omega arith, refl) (there.0, there.1, get_or_default ys there.0 x z there.1 ∙ there.2 ∙ sym same))
    (Contains-append_cases xs ys z has))
    (both_apart xs ys (λ i j d less within. one (suc i) (suc j) d (omega (arith, less)) (omega (arith, within))) other
    (λ z here there. cross z (suc here.0, omega (arith, here.1), here.2) there))

-- ---- what two calls do to a shelf

pub gains_both : (T : Type 0) (A B : Run → Type 0) (d : Says) (a b c : ShelfIs) → OnlyGains T A d a b → OnlyGains T B d b c → OnlyGains T (λ key. A key ⊎ B key) d a c
gains_both T A B d a b c one other = record {
  grown = record {
    more = one.grown.more ++ other.grown.more;
    is = other.grown.is ∙ ap (λ (s : List System). s ++ other.grown.more) one.grown.is ∙ append_assoc a.book one.grown.more other.grown.more;
    each = All-append (IsSystemOf d) one.grown.more other.grown.more one.grown.each other.grown.each;
  };
  stays = λ key has. other.stays key (one.stays key has);
  only = λ key has. ⊎_elim
      (λ old. ⊎_elim (λ older. inl older) (λ asked. inr (inl asked)) (one.only key old))
      (λ asked. inr (inr asked)) (other.only key has);
  still = λ none. other.still none ∙ one.still none;
}

adds_both : (A B : Run → Type 0) (a b c : ShelfIs) (xs ys : List Run) → Adds A a b xs → Adds B b c ys → Adds (λ key. A key ⊎ B key) a c (xs ++ ys)
adds_both A B a b c xs ys one other = record {
  once = both_apart xs ys one.once other.once (λ key here there. other.fresh key there (one.stand key here));
  fresh = λ key has held. ⊎_elim (λ here. one.fresh key here held) (λ there. other.fresh key there (one.stays key held)) (Contains-append_cases xs ys key has);
  asked = λ key has. ⊎_elim (λ here. inl (one.asked key here)) (λ there. inr (other.asked key there)) (Contains-append_cases xs ys key has);
  all = λ key asked. ⊎_elim
      (λ first. ⊎_elim (λ old. inl old) (λ here. inr (Contains-append_left xs ys key here)) (one.all key first))
      (λ second. ⊎_elim
      (λ held. ⊎_elim (λ old. inl old) (λ here. inr (Contains-append_left xs ys key here)) (one.only key held))
      (λ there. inr (Contains-append_right xs ys key there)) (other.all key second))
      asked;
  stays = λ key held. other.stays key (one.stays key held);
  stand = λ key has. ⊎_elim (λ here. other.stays key (one.stand key here)) (λ there. other.stand key there) (Contains-append_cases xs ys key has);
  only = λ key held. ⊎_elim
      (λ old. ⊎_elim (λ older. inl older) (λ here. inr (Contains-append_left xs ys key here)) (one.only key old))
      (λ there. inr (Contains-append_right xs ys key there)) (other.only key held);
  many = let e = length-append xs ys in omega (arith, one.many, other.many, e);
}

-- ---- what they learn

pub learns_both : {X : Type 0} (T : Type 0) (A B : Run → Type 0) (d : Says) (m1 m2 m3 : MemoryIs) (work : X → Work) (es fs gs : List X) (n k : ℕ)
    → Learns T A d m1 m2 work es fs n → Learns T B d m2 m3 work fs gs k → Learns T (λ key. A key ⊎ B key) d m1 m3 work es gs (n + k)
learns_both T A B d m1 m2 m3 work es fs gs n k one other = record {
  gains = gains_both T A B d m1.shelf m2.shelf m3.shelf one.gains other.gains;
  new = one.new ++ other.new;
  adds = adds_both A B m1.shelf m2.shelf m3.shelf one.new other.new one.adds other.adds;
  worked = together_then one.new other.new n k (map work es) (map work fs) (map work gs) one.worked other.worked;
  tally = other.tally ∙ ap (raised (length other.new)) one.tally ∙ raised_then (length one.new) (length other.new) m1.tally
      ∙ ap (λ (z : ℕ). raised z m1.tally) (sym (length-append one.new other.new));
}

-- and where memory was wanting in the second
pub lost_both : {X : Type 0} (T : Type 0) (A B : Run → Type 0) (d : Says) (m1 m2 m3 : MemoryIs) (work : X → Work) (es fs gs : List X) (n : ℕ)
    → Learns T A d m1 m2 work es fs n → IsLost T B d m2 m3 work fs gs → IsLost T (λ key. A key ⊎ B key) d m1 m3 work es gs
lost_both T A B d m1 m2 m3 work es fs gs n one other = record {
  gains = gains_both T A B d m1.shelf m2.shelf m3.shelf one.gains other.gains;
  gone = record {
    keys = one.new ++ other.gone.keys;
    years = n + other.gone.years;
    worked = together_then one.new other.gone.keys n other.gone.years (map work es) (map work fs) (map work gs) one.worked other.gone.worked;
    rose = other.gone.rose ∙ ap (raised (length other.gone.keys)) one.tally ∙ raised_then (length one.new) (length other.gone.keys) m1.tally
        ∙ ap (λ (z : ℕ). raised z m1.tally) (sym (length-append one.new other.gone.keys));
  };
}

-- ---- how little comes

-- a system of a deck's years is one of theirs
of_years : (d : Says) (s : System) → IsSystemOf d s → Contains (map (λ t. system d t) (range_with_len 1 (years d))) s
of_years d s is =
    let long = length-map-range_with_len (λ t. system d t) 1 (years d) in
    let k = is.year - 1 in
    let within : k < years d = omega (arith, is.within.0, is.within.1) in
    let same : 1 + k ≡ is.year = omega (arith, is.within.0) in
    (k, omega (arith, long, within), get_or-map-range_with_len (λ t. system d t) 1 (years d) k is.year s within same ∙ sym is.is)

-- however many calls they came by, the systems of a deck's years are no more than its years, since no two are the same
pub few_of_years : (T : Type 0) (A : Run → Type 0) (d : Says) (first last : ShelfIs) → years d ≤ 30 → IsShelf last → OnlyGains T A d first last → length last.book ≤ length first.book + 30
few_of_years T A d first last few is gains =
    let grown = gains.grown in
    let all = map (λ t. system d t) (range_with_len 1 (years d)) in
    let apart = apart_behind first.book grown.more (subst (λ (b : List System). AllPairs (λ one other. one ≢ other) b) grown.is is.apart) in
    let fewer = no_longer grown.more all apart (λ z has. of_years d z (All-contains (IsSystemOf d) grown.more z grown.each has)) in
    let long = length-map-range_with_len (λ t. system d t) 1 (years d) in
    let whole = ap length grown.is ∙ length-append first.book grown.more in
    omega (arith, few, fewer, long, whole)

-- so two calls on one deck gain few together
pub few_both : (T : Type 0) (A : Run → Type 0) (d : Says) (n k : ℕ) (m1 m2 m3 : MemoryIs) → years d ≤ 30 → IsShelf m3.shelf → OnlyGains T A d m1.shelf m3.shelf
    → GainsFew n m1 m2 → GainsFew k m2 m3 → GainsFew (n + k) m1 m3
few_both T A d n k m1 m2 m3 few is gains one other = record {
  systems = few_of_years T A d m1.shelf m3.shelf few is gains;
  rows = omega (arith, one.rows, other.rows);
}
