-- Numbers that are told apart.
use Rattle.std.proofs.Common.{eq-eqb, ne_eqb, ◌≡◌, ◌≢◌, ℕ, zero, suc, ◌+◌, ◌*◌, ◌/◌, ◌%◌, ◌<◌, ◌≤◌, Bool, List, [], ◌∷◌, ◌==◌, if◌then◌else◌, length, sym, refl, ap, ◌∙◌, subst, inl, inr, ⊎_elim, mul-le-mul_right, suc-mul, div-add-mod', arith}
use Rattle.std.proofs.lemmas.Bool.{cases_lt, cases_eq}
use Rattle.board_core.specs.Lists.{IsIn}

-- the list without the first x
without : ℕ → List ℕ → List ℕ
without x [] = []
without x (y ∷ ys) = if x == y then ys else y ∷ without x ys

without_length : (x : ℕ) (l : List ℕ) → IsIn x l → suc (length (without x l)) ≡ length l
unfolding without
without_length x [] h = elim h [ ]
without_length x (y ∷ l) h = ⊎_elim
    (λ (e : x ≡ y). subst (λ (b : Bool). suc (length (if b then l else y ∷ without x l)) ≡ suc (length l)) (sym (eq-eqb x y e)) refl)
    (λ (n : x ≢ y). subst (λ (b : Bool). suc (length (if b then l else y ∷ without x l)) ≡ suc (length l)) (sym (ne_eqb x y n))
    (ap suc (without_length x l (⊎_elim (λ (e : x ≡ y). absurd (n e)) (λ (i : IsIn x l). i) h))))
    (cases_eq x y)

without_other : (x z : ℕ) (l : List ℕ) → z ≢ x → IsIn z l → IsIn z (without x l)
unfolding without
without_other x z [] n h = h
without_other x z (y ∷ l) n h = ⊎_elim
    (λ (e : x ≡ y). subst (λ (b : Bool). IsIn z (if b then l else y ∷ without x l)) (sym (eq-eqb x y e)) (⊎_elim (λ (a : z ≡ y). absurd (n (a ∙ sym e))) (λ (i : IsIn z l). i) h))
    (λ (m : x ≢ y). subst (λ (b : Bool). IsIn z (if b then l else y ∷ without x l)) (sym (ne_eqb x y m)) (⊎_elim (λ (a : z ≡ y). inl a) (λ (i : IsIn z l). inr (without_other x z l n i)) h))
    (cases_eq x y)

-- n numbers that are told apart are at least n
pub pigeons : (R : ℕ → ℕ → Type 0) (n : ℕ) (l : List ℕ) → ((j : ℕ) → j < n → (y : ℕ) × IsIn y l × R j y) → ((i j y : ℕ) → R i y → R j y → i < n → j < n → i ≡ j) → n ≤ length l
pigeons R zero l f once = omega arith
pigeons R (suc n) l f once =
    let last = f n (omega arith) in
    let rest = pigeons R n (without last.0 l)
    (λ j lt. let o = f j (omega arith) in (o.0, without_other last.0 o.0 l (λ e. let same = once j n last.0 (subst (R j) e o.2) last.2 (omega arith) (omega arith) in omega arith) o.1, o.2))
    (λ i j y a b p q. once i j y a b (omega arith) (omega arith)) in
    let len = without_length last.0 l last.1 in
    omega arith

-- two numbers less than n apart, with one remainder, are one number
pub one_turn : (a b n : ℕ) → a ≤ b → b < a + n → a % n ≡ b % n → a ≡ b
one_turn a b n le lt e = ⊎_elim
    (λ (less : a / n < b / n).
    let m : suc (a / n) * n ≤ b / n * n = mul-le-mul_right n less in
    let s = suc-mul (a / n) n in
    let p = div-add-mod' a n in
    let q = div-add-mod' b n in
    absurd (omega arith))
    (λ (le' : b / n ≤ a / n).
    let m : b / n * n ≤ a / n * n = mul-le-mul_right n le' in
    let p = div-add-mod' a n in
    let q = div-add-mod' b n in
    omega arith)
    (cases_lt (a / n) (b / n))

pub spot_once : (h n i j : ℕ) → i < n → j < n → (h + i) % n ≡ (h + j) % n → i ≡ j
spot_once h n i j a b e = ⊎_elim
    (λ (lt : i < j). let same = one_turn (h + i) (h + j) n (omega arith) (omega arith) e in omega arith)
    (λ (ge : j ≤ i). let same = one_turn (h + j) (h + i) n (omega arith) (omega arith) (sym e) in omega arith)
    (cases_lt i j)
