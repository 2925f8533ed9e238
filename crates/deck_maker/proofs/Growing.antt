-- Decks one statement longer, and the whole.
use Rattle.std.proofs.Common.{◌≡◌, ℕ, ◌+◌, List, [], ◌∷◌, ◌++◌, map, refl, sym, subst, append_assoc}
use Rattle.std.proofs.lemmas.List.{append-nil}
use Rattle.deck_lines.specs.declared.statement.Statement.{Statement}
use Rattle.deck_check.specs.Readings.{first}
use Rattle.deck_check.proofs.Firsts.{first_none, map_more, flat_more}
use Rattle.deck_maker.specs.TrialDeck.{frame, fuels, plant, thermal, river, load, limits, pairs, tunnel, trial}

pub none_yet : (f : ℕ → Statement) (deck : List Statement) → deck ≡ deck ++ map f (first 0)
none_yet f deck = rw first_none (sym (append-nil deck))

pub one_more : (f : ℕ → Statement) (init old new : List Statement) (n : ℕ) (s : Statement) → new ≡ old ++ s ∷ [] → old ≡ init ++ map f (first n) → s ≡ f (n + 1) → new ≡ init ++ map f (first (n + 1))
one_more f init old new n s e h same = rw (map_more f n, e, h, same) (append_assoc init (map f (first n)) (f (n + 1) ∷ []))

pub pairs_none : (least : ℕ) → pairs least 0 ≡ []
pairs_none least = rw first_none refl

pub pairs_more : (least n : ℕ) → pairs least (n + 1) ≡ pairs least n ++ least ∷ 1 ∷ []
pairs_more least n = flat_more (λ (k : ℕ). least ∷ 1 ∷ []) n

four : (a b c d : Statement) (deck : List Statement) → (((deck ++ a ∷ []) ++ b ∷ []) ++ c ∷ []) ++ d ∷ [] ≡ deck ++ a ∷ b ∷ c ∷ d ∷ []
four a b c d deck = simp append_assoc

pub four_more : (a b c d : Statement) (d0 d1 d2 d3 d4 : List Statement) → d1 ≡ d0 ++ a ∷ [] → d2 ≡ d1 ++ b ∷ [] → d3 ≡ d2 ++ c ∷ [] → d4 ≡ d3 ++ d ∷ [] → d4 ≡ d0 ++ a ∷ b ∷ c ∷ d ∷ []
four_more a b c d d0 d1 d2 d3 d4 e1 e2 e3 e4 = rw (e4, e3, e2, e1) (four a b c d d0)

joined : (a b c d e f g h d0 d1 d2 d3 d4 d5 d6 d7 : List Statement) → d0 ≡ a → d1 ≡ d0 ++ b → d2 ≡ d1 ++ c → d3 ≡ d2 ++ d → d4 ≡ d3 ++ e → d5 ≡ d4 ++ f → d6 ≡ d5 ++ g → d7 ≡ d6 ++ h
    → d7 ≡ a ++ b ++ c ++ d ++ e ++ f ++ g ++ h
joined a b c d e f g h d0 d1 d2 d3 d4 d5 d6 d7 e0 e1 e2 e3 e4 e5 e6 e7 = rw (e7, e6, e5, e4, e3, e2, e1, e0) refl

pub whole : (seed years candidates s1 s2 s3 s4 s5 : ℕ) (d0 d1 d2 d3 d4 d5 d6 d7 : List Statement) → s1 ≡ seed → s2 ≡ seed → s3 ≡ seed → s4 ≡ seed → s5 ≡ seed
    → d0 ≡ frame years → d1 ≡ d0 ++ fuels s1 → d2 ≡ d1 ++ map (plant s2) (first 6) → d3 ≡ d2 ++ map (thermal s3) (first candidates) → d4 ≡ d3 ++ river s4 candidates
    → d5 ≡ d4 ++ map (load s5 candidates) (first years) → d6 ≡ d5 ++ limits → d7 ≡ d6 ++ map (tunnel candidates) (first years) → d7 ≡ trial seed years candidates
unfolding trial
whole seed years candidates s1 s2 s3 s4 s5 d0 d1 d2 d3 d4 d5 d6 d7 q1 q2 q3 q4 q5 e0 e1 e2 e3 e4 e5 e6 e7 =
    joined (frame years) (fuels seed) (map (plant seed) (first 6)) (map (thermal seed) (first candidates)) (river seed candidates) (map (load seed candidates) (first years)) limits (map (tunnel candidates) (first years))
    d0 d1 d2 d3 d4 d5 d6 d7 e0
    (subst (λ (x : ℕ). d1 ≡ d0 ++ fuels x) q1 e1)
    (subst (λ (x : ℕ). d2 ≡ d1 ++ map (plant x) (first 6)) q2 e2)
    (subst (λ (x : ℕ). d3 ≡ d2 ++ map (thermal x) (first candidates)) q3 e3)
    (subst (λ (x : ℕ). d4 ≡ d3 ++ river x candidates) q4 e4)
    (subst (λ (x : ℕ). d5 ≡ d4 ++ map (load x candidates) (first years)) q5 e5)
    e6 e7
