-- Configurations as digits with mixed bases.
use Rattle.std.proofs.Common.{◌≡◌, ℕ, zero, suc, ◌+◌, ◌*◌, ◌/◌, ◌%◌, ◌<◌, ◌≤◌, ◌++◌, List, [], ◌∷◌, length, get_or, take, drop, set, sym, ap, ◌∙◌, arith, refl, subst, ⊎_elim}
use Rattle.std.proofs.lemmas.Bool.{cases_eq}
use Rattle.std.specs.Bool.{⊤}
use Rattle.std.specs.List.{fold, zip}
use Rattle.std.proofs.lemmas.List.{at_drop_more, at_drop_all, take_more_set, get_or-set_same, get_or-set_other, length-set, take_all}
use Rattle.std.proofs.lemmas.List.Sums.{fold-append}
use Rattle.std.proofs.lemmas.Nat.{div-mul-add}
use Rattle.std.proofs.lemmas.Slice.Zip.{get_or-zip, length-zip}
use Rattle.std.proofs.Math.Nat.{mul-le-mul_right, mul-le-mul_left, div-lt_iff_lt-mul, mod-add-div, mul-div_cancel_left}
use Rattle.year_system.specs.System.{size}
use Rattle.year_system.specs.Code.{index_of}

-- one more digit
abbrev pub digit : ℕ → ℕ × ℕ → ℕ
digit a p = a * (p.0 + 1) + p.1

-- each digit is below its base
abbrev pub AreDigits : List ℕ → List ℕ → Type 0
AreDigits [] [] = ⊤
AreDigits [] (x ∷ xs) = ⊥
AreDigits (g ∷ gs) [] = ⊥
AreDigits (g ∷ gs) (x ∷ xs) = (x ≤ g) × AreDigits gs xs

-- the number by its first digit and the rest
abbrev pub number : List ℕ → List ℕ → ℕ
number [] xs = 0
number (g ∷ gs) [] = 0
number (g ∷ gs) (x ∷ xs) = x * size gs + number gs xs

pub size_pos : (gs : List ℕ) → 1 ≤ size gs
size_pos [] = omega arith
size_pos (g ∷ gs) = omega (arith, mul-le-mul_left (g + 1) (size_pos gs))

pub number_small : (gs xs : List ℕ) → AreDigits gs xs → number gs xs < size gs
number_small [] [] h = omega arith
number_small [] (x ∷ xs) h = absurd h
number_small (g ∷ gs) [] h = absurd h
number_small (g ∷ gs) (x ∷ xs) h = omega (arith, number_small gs xs h.1, mul-le-mul_right (size gs) h.0)

pub fold_digits : (gs xs : List ℕ) (a : ℕ) → AreDigits gs xs → fold digit a (zip gs xs) ≡ a * size gs + number gs xs
fold_digits [] [] a h = omega arith
fold_digits [] (x ∷ xs) a h = absurd h
fold_digits (g ∷ gs) [] a h = absurd h
fold_digits (g ∷ gs) (x ∷ xs) a h = omega (arith, fold_digits gs xs (a * (g + 1) + x) h.1)

pub index_is : (gs xs : List ℕ) → AreDigits gs xs → index_of gs xs ≡ number gs xs
index_is gs xs h = omega (arith, fold_digits gs xs 0 h)

-- equal numbers have equal digits
pub digits_same : (gs xs ys : List ℕ) → AreDigits gs xs → AreDigits gs ys → number gs xs ≡ number gs ys → xs ≡ ys
digits_same [] [] [] h k e = refl
digits_same [] [] (y ∷ ys) h k e = absurd k
digits_same [] (x ∷ xs) ys h k e = absurd h
digits_same (g ∷ gs) [] ys h k e = absurd h
digits_same (g ∷ gs) (x ∷ xs) [] h k e = absurd k
digits_same (g ∷ gs) (x ∷ xs) (y ∷ ys) h k e =
    let first : x ≡ y = sym (div-mul-add x (size gs) (number gs xs) (number_small gs xs h.1)) ∙ (ap (λ n. n / size gs) e ∙ div-mul-add y (size gs) (number gs ys) (number_small gs ys k.1)) in
    let rest : number gs xs ≡ number gs ys = omega (arith, e, ap (λ n. n * size gs) first) in
    λ i. first i ∷ digits_same gs xs ys h.1 k.1 rest i

-- by places
pub digits_from : (gs xs : List ℕ) → length xs ≡ length gs → ((k : ℕ) → k < length xs → get_or xs k 0 ≤ get_or gs k 0) → AreDigits gs xs
digits_from [] [] e h = tt
digits_from [] (x ∷ xs) e h = absurd (omega (arith, e))
digits_from (g ∷ gs) [] e h = absurd (omega (arith, e))
digits_from (g ∷ gs) (x ∷ xs) e h = (h 0 (omega arith), digits_from gs xs (omega (arith, e)) (λ k l. h (suc k) (omega arith)))

-- a fold of digits does not fall
pub fold_grows : (ps : List (ℕ × ℕ)) (a : ℕ) → a ≤ fold digit a ps
fold_grows [] a = omega arith
fold_grows (p ∷ ps) a = omega (arith, fold_grows ps (digit a p))

-- a loop's step
pub fold_drop : (gs xs : List ℕ) (a k : ℕ) → k < length gs → length xs ≡ length gs → fold digit a (drop k (zip gs xs)) ≡ fold digit (a * (get_or gs k 0 + 1) + get_or xs k 0) (drop (k + 1) (zip gs xs))
fold_drop gs xs a k h e =
    let at : get_or (zip gs xs) k (0, 0) ≡ (get_or gs k 0, get_or xs k 0) = get_or-zip gs xs k (0, 0) h (omega arith) in
    at_drop_more (fold digit a) (zip gs xs) k (0, 0) (omega (arith, length-zip gs xs)) ∙ ap (λ p. fold digit (digit a p) (drop (k + 1) (zip gs xs))) at

pub size_drop : (gs : List ℕ) (k : ℕ) → k < length gs → size (drop k gs) ≡ (get_or gs k 0 + 1) * size (drop (k + 1) gs)
size_drop gs k h = at_drop_more size gs k 0 h

pub size_take_more : (gs : List ℕ) (g : ℕ) → size (gs ++ g ∷ []) ≡ (g + 1) * size gs
size_take_more [] g = omega arith
size_take_more (h ∷ gs) g = omega (arith, ap (λ n. (h + 1) * n) (size_take_more gs g))

pub size_take : (gs : List ℕ) (k : ℕ) → size (take k gs) ≤ size gs
size_take gs zero = size_pos gs
size_take [] (suc k) = omega arith
size_take (g ∷ gs) (suc k) = mul-le-mul_left (g + 1) (size_take gs k)

pub zip_set : (gs xs : List ℕ) (k y : ℕ) → zip gs (set xs k y) ≡ set (zip gs xs) k (get_or gs k 0, y)
zip_set [] xs k y = refl
zip_set (g ∷ gs) [] k y = refl
zip_set (g ∷ gs) (x ∷ xs) zero y = refl
zip_set (g ∷ gs) (x ∷ xs) (suc k) y = ap (λ zs. (g, x) ∷ zs) (zip_set gs xs k y)

-- what bounds one more digit
pub step_small : (gs xs : List ℕ) (a k bound : ℕ) → k < length gs → length xs ≡ length gs → fold digit a (drop k (zip gs xs)) ≡ index_of gs xs → AreDigits gs xs → size gs ≤ bound → a * (get_or gs k 0 + 1) + get_or xs k 0 < bound
step_small gs xs a k bound h e i d s =
    let at = fold_drop gs xs a k h e in
    let up = fold_grows (drop (k + 1) (zip gs xs)) (a * (get_or gs k 0 + 1) + get_or xs k 0) in
    let n = number_small gs xs d in
    let m = index_is gs xs d in
    omega (arith, at, up, n, m, i, s)

-- one step from a number to its digits
pub record Step (big small g rest acc : ℕ) : Type 0 where
  pub quotient : big / (g + 1) ≡ small
  pub most : rest / small ≤ g
  pub below : rest % small < small
  pub same : acc * big + rest ≡ (acc * (g + 1) + rest / small) * small + rest % small

pub step_down : (big small g rest acc : ℕ) → big ≡ (g + 1) * small → 1 ≤ small → rest < big → Step big small g rest acc
step_down big small g rest acc e h l =
    let q : big / (g + 1) ≡ small = ap (λ n. n / (g + 1)) e ∙ mul-div_cancel_left small {n = g + 1} (omega arith) in
    let m : rest / small < g + 1 = (div-lt_iff_lt-mul {k = small} {x = rest} {y = g + 1} h).1 (omega (arith, e)) in
    let s = mod-add-div rest small in
    let b : acc * big ≡ acc * ((g + 1) * small) = ap (λ n. acc * n) e in
    record { quotient = q; most = omega (arith, m); below = omega arith; same = omega (arith, b, s) }

-- the digits so far, with one more
pub fold_set : (gs xs : List ℕ) (k y : ℕ) → k < length gs → length xs ≡ length gs → fold digit 0 (take (k + 1) (zip gs (set xs k y))) ≡ fold digit 0 (take k (zip gs xs)) * (get_or gs k 0 + 1) + y
fold_set gs xs k y h e =
    let l : k < length (zip gs xs) = omega (arith, length-zip gs xs) in
    let z : take (k + 1) (zip gs (set xs k y)) ≡ take k (zip gs xs) ++ (get_or gs k 0, y) ∷ [] =
    ap (λ ps. take (k + 1) ps) (zip_set gs xs k y) ∙ take_more_set (zip gs xs) k (get_or gs k 0, y) l in
    ap (λ ps. fold digit 0 ps) z ∙ fold-append digit 0 (take k (zip gs xs)) ((get_or gs k 0, y) ∷ [])

-- the counts so far stay in their bounds
pub most_set : (gs xs : List ℕ) (k y : ℕ) → k < length xs → y ≤ get_or gs k 0 → ((j : ℕ) → j < k → get_or xs j 0 ≤ get_or gs j 0) → (j : ℕ) → j < k + 1 → get_or (set xs k y) j 0 ≤ get_or gs j 0
most_set gs xs k y h l f j b =
    ⊎_elim (λ e. rw e (rw (get_or-set_same xs k y 0 h) l)) (λ n. rw (get_or-set_other xs k j y 0 n) (f j (omega (arith, n)))) (cases_eq j k)

-- what the loop from a number to its digits keeps
pub record Reading (gs : List ℕ) (index k big rest : ℕ) (xs : List ℕ) : Type 0 where
  pub size : big ≡ size (drop k gs)
  pub below : rest < big
  pub width : length xs ≡ length gs
  pub most : (j : ℕ) → j < k → get_or xs j 0 ≤ get_or gs j 0
  pub whole : fold digit 0 (take k (zip gs xs)) * big + rest ≡ index

pub reading_step : (gs : List ℕ) (index k big rest : ℕ) (xs : List ℕ) → Reading gs index k big rest xs → k < length gs → Step big (size (drop (k + 1) gs)) (get_or gs k 0) rest (fold digit 0 (take k (zip gs xs)))
reading_step gs index k big rest xs r h =
    step_down big (size (drop (k + 1) gs)) (get_or gs k 0) rest (fold digit 0 (take k (zip gs xs))) (r.size ∙ size_drop gs k h) (size_pos (drop (k + 1) gs)) r.below

pub reading_more : (gs : List ℕ) (index k big rest g : ℕ) (xs : List ℕ) → Reading gs index k big rest xs → k < length gs → g ≡ get_or gs k 0 → Reading gs index (k + 1) (big / (g + 1)) (rest % (big / (g + 1))) (set xs k (rest / (big / (g + 1))))
reading_more gs index k big rest g xs r h e =
    let s = reading_step gs index k big rest xs r h in
    let small = size (drop (k + 1) gs) in
    let q : big / (g + 1) ≡ small = ap (λ n. big / (n + 1)) e ∙ s.quotient in
    let P : ℕ → Type 0 = λ n. Reading gs index (k + 1) n (rest % n) (set xs k (rest / n)) in
    subst P (sym q) (record {
      size = refl;
      below = s.below;
      width = length-set xs k (rest / small) ∙ r.width;
      most = most_set gs xs k (rest / small) (omega (arith, r.width)) s.most r.most;
      whole = ap (λ n. n * small + rest % small) (fold_set gs xs k (rest / small) h r.width) ∙ (sym s.same ∙ r.whole);
    })

pub reading_digit : (gs : List ℕ) (index k big rest g : ℕ) (xs : List ℕ) → Reading gs index k big rest xs → k < length gs → g ≡ get_or gs k 0 → rest / (big / (g + 1)) ≤ g
reading_digit gs index k big rest g xs r h e =
    let s = reading_step gs index k big rest xs r h in
    let q : big / (g + 1) ≡ size (drop (k + 1) gs) = ap (λ n. big / (n + 1)) e ∙ s.quotient in
    rw q (omega (arith, s.most, e))

pub reading_done : (gs : List ℕ) (index k big rest : ℕ) (xs : List ℕ) → Reading gs index k big rest xs → length gs ≤ k → index_of gs xs ≡ index
reading_done gs index k big rest xs r h =
    let z : size (drop k gs) ≡ 1 = at_drop_all size gs k h in
    let t : fold digit 0 (take k (zip gs xs)) ≡ index_of gs xs = ap (λ ps. fold digit 0 ps) (take_all k (zip gs xs) (omega (arith, length-zip gs xs))) in
    let b : index_of gs xs * big ≡ index_of gs xs * 1 = ap (λ n. index_of gs xs * n) (r.size ∙ z) in
    let w : fold digit 0 (take k (zip gs xs)) * big ≡ index_of gs xs * big = ap (λ n. n * big) t in
    omega (arith, r.whole, b, w, r.below, r.size, z)
