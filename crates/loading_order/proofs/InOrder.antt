-- A list put in order, and why there is only one.
use Rattle.std.proofs.Common.{◌≡◌, ℕ, ◌+◌, ◌<◌, ◌≤◌, List, [], ◌∷◌, length, get_or, sym, ap, ◌∙◌, arith, Bool, true, false, cond, not, refl, suc, zero}
use Rattle.std.specs.Bool.{⊤}
use Rattle.std.specs.List.{count_by, AllByRecursion, All}
use Rattle.std.specs.List.Sorted.{IsPermutation, IsSortedBy}
use Rattle.std.specs.Cmp.{IsStrictWeakOrder}
use Rattle.std.proofs.lemmas.List.Sums.{sum_by-cons}
use Rattle.std.proofs.lemmas.List.Sorted.{sum_by-IsPermutation, sorted_far}
use Rattle.loading_order.specs.LoadingOrder.{put_in, in_order}

-- what an element adds to a count
abbrev pub one_if : Bool → ℕ
one_if b = cond b 1 0

-- how many pass, with one more in front
pub count_cons : {X : Type 0} (p : X → Bool) (x : X) (xs : List X) → count_by p (x ∷ xs) ≡ cond (p x) 1 0 + count_by p xs
count_cons p x xs = sum_by-cons (λ y. cond (p y) 1 0) x xs

pub not_before_itself : {X : Type 0} (before : X → X → Bool) → IsStrictWeakOrder before → (x : X) → before x x ≡ false
not_before_itself before o x =
    elim (before x x) as (λ v. before x x ≡ v → v ≡ false) [ false ↦ λ _. refl | true ↦ λ q. sym q ∙ o.one_way x x q ] refl

-- no element is before an earlier one
abbrev pub Ascends : {X : Type 0} → (X → X → Bool) → List X → Type 0
Ascends before [] = ⊤
Ascends before (x ∷ xs) = AllByRecursion (λ y. before y x ≡ false) xs × Ascends before xs

-- y is not before x where some element that is not after y is not before x
reached : {X : Type 0} (before : X → X → Bool) → IsStrictWeakOrder before → (y x : X) (xs : List X) → AllByRecursion (λ z. before z x ≡ false) xs → 1 ≤ count_by (λ z. not (before y z)) xs → before y x ≡ false
reached before o y x [] a h = absurd (omega arith)
reached before o y x (z ∷ zs) a h =
    elim (before y z) as (λ v. before y z ≡ v → before y x ≡ false) [
      | false ↦ λ q. o.chain y z x q a.0
      | true ↦ λ q.
          let e : one_if (not (before y z)) ≡ one_if false = ap (λ b. one_if (not b)) q in
          reached before o y x zs a.1 (omega (arith, count_cons (λ w. not (before y w)) z zs, e))
    ] refl

-- the first elements of two lists with the same elements
first_low : {X : Type 0} (before : X → X → Bool) → IsStrictWeakOrder before → (x y : X) (xs ys : List X) → Ascends before (x ∷ xs) → ((p : X → Bool) → count_by p (x ∷ xs) ≡ count_by p (y ∷ ys)) → before y x ≡ false
first_low {X} before o x y xs ys a c =
    let p : X → Bool = λ z. not (before y z) in
    let n : count_by p (y ∷ ys) ≡ 1 + count_by p ys = count_cons p y ys ∙ ap (λ b. one_if (not b) + count_by p ys) (not_before_itself before o y) in
    reached before o y x (x ∷ xs) (not_before_itself before o x, a.0) (omega (arith, c p, n))

-- two lists that ascend and have the same elements are one, where elements that tie are equal
pub one_order : {X : Type 0} (before : X → X → Bool) → IsStrictWeakOrder before → (P : X → Type 0) → ((a b : X) → P a → P b → before a b ≡ false → before b a ≡ false → a ≡ b) → (xs ys : List X) → Ascends before xs → Ascends before ys → AllByRecursion P xs → AllByRecursion P ys → ((p : X → Bool) → count_by p xs ≡ count_by p ys) → xs ≡ ys
one_order before o P same [] [] a b f g c = refl
one_order before o P same [] (y ∷ ys) a b f g c = absurd (omega (arith, c (λ _. true), count_cons (λ _. true) y ys))
one_order before o P same (x ∷ xs) [] a b f g c = absurd (omega (arith, c (λ _. true), count_cons (λ _. true) x xs))
one_order {X} before o P same (x ∷ xs) (y ∷ ys) a b f g c =
    let e : x ≡ y = same x y f.0 g.0 (first_low before o y x ys xs b (λ p. sym (c p))) (first_low before o x y xs ys a c) in
    let rest : (p : X → Bool) → count_by p xs ≡ count_by p ys = λ p. omega (arith, c p, count_cons p x xs, count_cons p y ys, ap (λ z. one_if (p z)) e) in
    λ i. e i ∷ one_order before o P same xs ys a.1 b.1 f.1 g.1 rest i

-- putting in keeps the elements
pub count-put_in : {X : Type 0} (before : X → X → Bool) (p : X → Bool) (x : X) (ys : List X) → count_by p (put_in before x ys) ≡ cond (p x) 1 0 + count_by p ys
count-put_in before p x [] = count_cons p x []
count-put_in before p x (y ∷ ys) =
    elim (before y x) as (λ v. count_by p (cond v (y ∷ put_in before x ys) (x ∷ y ∷ ys)) ≡ cond (p x) 1 0 + count_by p (y ∷ ys)) [
      | false ↦ count_cons p x (y ∷ ys)
      | true ↦ omega (arith, count_cons p y (put_in before x ys), count-put_in before p x ys, count_cons p y ys)
    ]

pub count-in_order : {X : Type 0} (before : X → X → Bool) (p : X → Bool) (xs : List X) → count_by p (in_order before xs) ≡ count_by p xs
count-in_order before p [] = refl
count-in_order before p (x ∷ xs) = omega (arith, count-put_in before p x (in_order before xs), count-in_order before p xs, count_cons p x xs)

-- what holds of x and of each element of ys holds after x is put in
pub all-put_in : {X : Type 0} (before : X → X → Bool) (P : X → Type 0) (x : X) (ys : List X) → P x → AllByRecursion P ys → AllByRecursion P (put_in before x ys)
all-put_in before P x [] h a = (h, tt)
all-put_in before P x (y ∷ ys) h a =
    elim (before y x) as (λ v. AllByRecursion P (cond v (y ∷ put_in before x ys) (x ∷ y ∷ ys))) [
      | false ↦ (h, a)
      | true ↦ (a.0, all-put_in before P x ys h a.1)
    ]

pub all-in_order : {X : Type 0} (before : X → X → Bool) (P : X → Type 0) (xs : List X) → AllByRecursion P xs → AllByRecursion P (in_order before xs)
all-in_order before P [] a = tt
all-in_order before P (x ∷ xs) a = all-put_in before P x (in_order before xs) a.0 (all-in_order before P xs a.1)

all_weaker : {X : Type 0} (P Q : X → Type 0) → ((x : X) → P x → Q x) → (xs : List X) → AllByRecursion P xs → AllByRecursion Q xs
all_weaker P Q w [] a = tt
all_weaker P Q w (x ∷ xs) a = (w x a.0, all_weaker P Q w xs a.1)

pub ascends-put_in : {X : Type 0} (before : X → X → Bool) → IsStrictWeakOrder before → (x : X) (ys : List X) → Ascends before ys → Ascends before (put_in before x ys)
ascends-put_in before o x [] a = (tt, tt)
ascends-put_in before o x (y ∷ ys) a =
    elim (before y x) as (λ v. before y x ≡ v → Ascends before (cond v (y ∷ put_in before x ys) (x ∷ y ∷ ys))) [
      | false ↦ λ q. ((q, all_weaker (λ z. before z y ≡ false) (λ z. before z x ≡ false) (λ z h. o.chain z y x h q) ys a.0), a)
      | true ↦ λ q. (all-put_in before (λ z. before z y ≡ false) x ys (o.one_way y x q) a.0, ascends-put_in before o x ys a.1)
    ] refl

pub ascends-in_order : {X : Type 0} (before : X → X → Bool) → IsStrictWeakOrder before → (xs : List X) → Ascends before (in_order before xs)
ascends-in_order before o [] = tt
ascends-in_order before o (x ∷ xs) = ascends-put_in before o x (in_order before xs) (ascends-in_order before o xs)

-- from places to recursion
pub all_from_places : {X : Type 0} (P : X → Type 0) (xs : List X) → All P xs → AllByRecursion P xs
all_from_places P [] a = tt
all_from_places P (x ∷ xs) a = (a 0 x (omega arith), all_from_places P xs (λ k d h. a (suc k) d (omega arith)))

pub ascends_from_sorted : {X : Type 0} (before : X → X → Bool) → (xs : List X) → ((i j : ℕ) (d : X) → i ≤ j → j < length xs → before (get_or xs j d) (get_or xs i d) ≡ false) → Ascends before xs
ascends_from_sorted before [] f = tt
ascends_from_sorted before (x ∷ xs) f = (
  all_from_places (λ y. before y x ≡ false) xs (λ k d h. f 0 (suc k) d (omega arith) (omega arith)),
  ascends_from_sorted before xs (λ i j d h l. f (suc i) (suc j) d (omega arith) (omega arith)),
)

-- a sort of a list gives it in order, where elements that tie are equal
pub in_order_is : {X : Type 0} (before : X → X → Bool) → IsStrictWeakOrder before → (P : X → Type 0) → ((a b : X) → P a → P b → before a b ≡ false → before b a ≡ false → a ≡ b) → (xs ys : List X) → AllByRecursion P xs → IsPermutation xs ys → AllByRecursion P ys → IsSortedBy before ys → ys ≡ in_order before xs
in_order_is before o P same xs ys f m g s =
    one_order before o P same ys (in_order before xs)
    (ascends_from_sorted before ys (sorted_far before o ys s)) (ascends-in_order before o xs) g (all-in_order before P xs f)
    (λ p. sum_by-IsPermutation (λ x. cond (p x) 1 0) xs ys m ∙ sym (count-in_order before p xs))

-- and back
pub all_to_places : {X : Type 0} (P : X → Type 0) (xs : List X) → AllByRecursion P xs → All P xs
all_to_places P [] a = λ k d h. absurd (omega arith)
all_to_places P (x ∷ xs) a = λ k d h. elim k as (λ j. j < length (x ∷ xs) → P (get_or (x ∷ xs) j d)) [ zero ↦ λ _. a.0 | suc j ↦ λ l. all_to_places P xs a.1 j d (omega arith) ] h
