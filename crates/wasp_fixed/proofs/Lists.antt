-- Lists, as several crates need them.
use Rattle.std.proofs.Common.{◌≡◌, ℕ, zero, suc, ◌+◌, ◌<◌, ◌≤◌, List, [], ◌∷◌, ◌++◌, length, get_or, take, drop, sum_by, zero-add, All, Contains, Option, Some, slice_get, refl, sym, ap, ◌∙◌, arith, inl, inr, ◌⊎◌}
use Rattle.std.specs.List.{AllByRecursion, flat_map, range_with_len, zip}
use Rattle.std.proofs.lemmas.List.{append-nil, drop_all, map-id, take_all}
use Rattle.std.proofs.lemmas.List.Elements.{All-append, All-cons, All-head, All-nil, All-tail}
use Rattle.std.proofs.lemmas.List.FromFn.{map-range_with_len_more}
use Rattle.std.proofs.lemmas.List.Sums.{sum_by_more}
use Rattle.std.proofs.lemmas.Slice.Zip.{get_or-zip, length-zip}

-- lists of one length that are the same at every place
pub list_ext : {X : Type 0} (d : X) (xs ys : List X) → length xs ≡ length ys → ((k : ℕ) → k < length xs → get_or xs k d ≡ get_or ys k d) → xs ≡ ys
list_ext d [] [] n e = refl
list_ext d [] (y ∷ ys) n e = absurd (omega (arith, n))
list_ext d (x ∷ xs) [] n e = absurd (omega (arith, n))
list_ext {X} d (x ∷ xs) (y ∷ ys) n e =
    let head : x ≡ y = e 0 (omega arith) in
    let rest : xs ≡ ys = list_ext d xs ys (omega (arith, n)) (λ k h. e (suc k) (omega (arith, h))) in
    λ i. head i ∷ rest i

-- what is so of all of two lists is so of the one behind the other, and the other way round
pub all_append : {X : Type 0} (P : X → Type 0) (xs ys : List X) → AllByRecursion P xs → AllByRecursion P ys → AllByRecursion P (xs ++ ys)
all_append P [] ys a b = b
all_append P (x ∷ xs) ys a b = (a.0, all_append P xs ys a.1 b)

pub all_split : {X : Type 0} (P : X → Type 0) (xs ys : List X) → All P (xs ++ ys) → All P xs × All P ys
all_split P [] ys all = (All-nil P, all)
all_split P (x ∷ xs) ys all =
    let rest = all_split P xs ys (All-tail P x (xs ++ ys) all) in
    (All-cons P x xs (All-head P x (xs ++ ys) all) rest.0, rest.1)

-- what is so of all of each list is so of all lists together
pub all_flat : {X Y : Type 0} (P : Y → Type 0) (f : X → List Y) (xs : List X) → All (λ x. All P (f x)) xs → All P (flat_map f xs)
all_flat {X} {Y} P f [] all = All-nil P
all_flat {X} {Y} P f (x ∷ xs) all = All-append P (f x) (flat_map f xs) (All-head (λ (z : X). All P (f z)) x xs all) (all_flat P f xs (All-tail (λ (z : X). All P (f z)) x xs all))

-- what a list contains is its first or in the rest
first_or_later : {X : Type 0} (x : X) (xs : List X) (z : X) (k : ℕ) → k < length (x ∷ xs) → get_or (x ∷ xs) k z ≡ z → (x ≡ z) ⊎ Contains xs z
first_or_later x xs z zero b e = inl e
first_or_later x xs z (suc k) b e = inr (k, omega (arith, b), e)

pub first_or_rest : {X : Type 0} (x : X) (xs : List X) (z : X) → Contains (x ∷ xs) z → (x ≡ z) ⊎ Contains xs z
first_or_rest x xs z (k, b, e) = first_or_later x xs z k b e

pub contains_tail : {X : Type 0} (x : X) (xs : List X) (z : X) → Contains xs z → Contains (x ∷ xs) z
contains_tail x xs z (k, b, e) = (suc k, omega (arith, b), e)

-- what stands at a place stands there when the list has grown behind
pub slice_get_front : {X : Type 0} (xs ys : List X) (k : ℕ) (x : X) → slice_get xs k ≡ Some x → slice_get (xs ++ ys) k ≡ Some x
slice_get_front [] ys k x at = cc
slice_get_front (y ∷ xs) ys zero x at = at
slice_get_front (y ∷ xs) ys (suc k) x at = slice_get_front xs ys k x at

-- one place more
pub range_more : (n : ℕ) → range_with_len 0 (n + 1) ≡ range_with_len 0 n ++ n ∷ []
range_more n = sym (map-id (range_with_len 0 (n + 1))) ∙ (map-range_with_len_more (λ x. x) 0 n n (zero-add n) ∙ ap (λ xs. xs ++ n ∷ []) (map-id (range_with_len 0 n)))

pub zip_more : {X : Type 0} (f : X × ℕ → ℕ) (xs : List X) (ns : List ℕ) (k : ℕ) (d : X) → length xs ≤ length ns → k < length xs →
    sum_by f (take (k + 1) (zip xs ns)) ≡ sum_by f (take k (zip xs ns)) + f (get_or xs k d, get_or ns k 0)
zip_more f xs ns k d l h =
    let n : k < length (zip xs ns) = omega (arith, length-zip xs ns) in
    sum_by_more f (zip xs ns) k (d, 0) n ∙ ap (λ e. sum_by f (take k (zip xs ns)) + f e) (get_or-zip xs ns k (d, 0) h (omega arith))

-- a list that was written over another of its length
pub written : {X : Type 0} (new was : List X) (n : ℕ) → length new ≡ length was → n ≡ length was → take n (new ++ drop (length new) was) ≡ new
written new was n e k =
    ap (λ ys. take n (new ++ ys)) (drop_all (length new) was (omega (arith, e))) ∙ (ap (take n) (append-nil new) ∙ take_all n new (omega (arith, e, k)))
