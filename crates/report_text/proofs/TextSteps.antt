-- One more text behind those that a loop has written.
use Rattle.std.proofs.Common.{◌≡◌, ◌∙◌, ap, sym, ℕ, zero, suc, ◌+◌, ◌<◌, List, [], ◌∷◌, ◌++◌, length, take, get_or, add-one, zero-add, append_assoc, arith}
use Rattle.std.proofs.lemmas.Grind.{flat_map-append}
use Rattle.std.proofs.lemmas.List.{append-nil, length-take-le, take_more}
use Rattle.std.specs.List.{enumerate_from, flat_map, range_with_len}
use Rattle.report_text.specs.Lines.{texts}

flat_map_range_more : (f : ℕ → List ℕ) (a n j : ℕ) → a + n ≡ j → flat_map f (range_with_len a (suc n)) ≡ flat_map f (range_with_len a n) ++ f j
flat_map_range_more f a zero j at =
    let same : a ≡ j = omega arith in
    append-nil (f a) ∙ ap f same
flat_map_range_more f a (suc n) j at =
    let next : (a + 1) + n ≡ j = omega arith in
    ap (λ (t : List ℕ). f a ++ t) (flat_map_range_more f (a + 1) n j next)
    ∙ sym (append_assoc (f a) (flat_map f (range_with_len (a + 1) n)) (f j))

texts_more : (f : ℕ → List ℕ) (k : ℕ) → texts (k + 1) f ≡ texts k f ++ f k
texts_more f k =
    let same : k + 1 ≡ suc k = add-one k in
    ap (λ (n : ℕ). texts n f) same ∙ flat_map_range_more f 0 k k (zero-add k)

-- the texts of the first places, and that of the next
pub text_step : (f : ℕ → List ℕ) (k : ℕ) (old before after : List ℕ) → before ≡ old ++ texts k f → after ≡ before ++ f k
    → after ≡ old ++ texts (k + 1) f
text_step f k old before after so_far more =
    more ∙ ap (λ (t : List ℕ). t ++ f k) so_far ∙ append_assoc old (texts k f) (f k) ∙ ap (λ (t : List ℕ). old ++ t) (sym (texts_more f k))

enumerate_from-append : {X : Type 0} (n : ℕ) (xs : List X) (x : X) (j : ℕ) → n + length xs ≡ j → enumerate_from n (xs ++ x ∷ []) ≡ enumerate_from n xs ++ (j, x) ∷ []
enumerate_from-append {X} n [] x j at =
    let same : n ≡ j = omega arith in
    ap (λ (k : ℕ). (k, x) ∷ []) same
enumerate_from-append {X} n (y ∷ ys) x j at =
    let next : (n + 1) + length ys ≡ j = omega arith in
    ap (λ (t : List (ℕ × X)). (n, y) ∷ t) (enumerate_from-append (n + 1) ys x j next)

enumerate_more : {X : Type 0} (f : ℕ × X → List ℕ) (xs : List X) (k : ℕ) (x : X) → k < length xs
    → flat_map f (enumerate_from 1 (take (k + 1) xs)) ≡ flat_map f (enumerate_from 1 (take k xs)) ++ f (k + 1, get_or xs k x)
enumerate_more {X} f xs k x within =
    let y = get_or xs k x in
    let at : 1 + length (take k xs) ≡ k + 1 = omega (arith, length-take-le k xs (omega arith)) in
    ap (λ (t : List X). flat_map f (enumerate_from 1 t)) (take_more xs k x within)
    ∙ ap (flat_map f) (enumerate_from-append 1 (take k xs) y (k + 1) at)
    ∙ flat_map-append f (enumerate_from 1 (take k xs)) ((k + 1, y) ∷ [])
    ∙ ap (λ (t : List ℕ). flat_map f (enumerate_from 1 (take k xs)) ++ t) (append-nil (f (k + 1, y)))

-- the same where each text has its number, from 1
pub numbered_step : {X : Type 0} (f : ℕ × X → List ℕ) (xs : List X) (k : ℕ) (x : X) (old before after : List ℕ) → k < length xs
    → before ≡ old ++ flat_map f (enumerate_from 1 (take k xs)) → after ≡ before ++ f (k + 1, get_or xs k x)
    → after ≡ old ++ flat_map f (enumerate_from 1 (take (k + 1) xs))
numbered_step {X} f xs k x old before after within so_far more =
    more ∙ ap (λ (t : List ℕ). t ++ f (k + 1, get_or xs k x)) so_far
    ∙ append_assoc old (flat_map f (enumerate_from 1 (take k xs))) (f (k + 1, get_or xs k x))
    ∙ ap (λ (t : List ℕ). old ++ t) (sym (enumerate_more f xs k x within))
