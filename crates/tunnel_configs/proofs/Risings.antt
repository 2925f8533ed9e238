-- Lists of configurations in rising order.
use Rattle.std.proofs.Common.{◌≡◌, ℕ, zero, suc, List, [], ◌∷◌, ◌++◌, length, take, Contains, sym, ap, ◌∙◌, arith, refl, subst, ⊎_elim, ◌⊎◌, inl, inr, true≢false}
use Rattle.std.specs.Cmp.Lexicographic.{slice_cmp}
use Rattle.std.specs.List.{AllByRecursion}
use Rattle.std.specs.List.Sorted.{IsStrictlySortedBy}
use Rattle.std.specs.Ordering.{is_lt, nat_cmp, ordering_reverse}
use Rattle.std.specs.declared.cmp.Ordering.{Ordering}
use Rattle.std.specs.declared.cmp.Ordering.TheVariants.{Less, Equal, Greater}
use Rattle.std.proofs.lemmas.Cmp.{nat_list_cmp_total}
use Rattle.tunnel_configs.specs.Listed.{AreRising}

pub contains_cases : (x : List ℕ) (xs : List (List ℕ)) (c : List ℕ) → Contains (x ∷ xs) c → (x ≡ c) ⊎ Contains xs c
contains_cases x xs c (zero, b, e) = inl e
contains_cases x xs c (suc k, b, e) = inr (k, omega (arith, b), e)

pub contains_later : (x : List ℕ) (xs : List (List ℕ)) (c : List ℕ) → Contains xs c → Contains (x ∷ xs) c
contains_later x xs c (k, b, e) = (suc k, omega (arith, b), e)

pub contains_first : (x : List ℕ) (xs : List (List ℕ)) → Contains (x ∷ xs) x
contains_first x xs = (0, omega arith, refl)

pub contains_none : (c : List ℕ) → Contains [] c → ⊥
contains_none c (k, b, e) = absurd (omega (arith, b))

pub all_contained : (P : List ℕ → Type 0) (xs : List (List ℕ)) → ((c : List ℕ) → Contains xs c → P c) → AllByRecursion P xs
all_contained P [] h = tt
all_contained P (x ∷ xs) h = (h x (contains_first x xs), all_contained P xs (λ c b. h c (contains_later x xs c b)))

pub contained : (P : List ℕ → Type 0) (xs : List (List ℕ)) → AllByRecursion P xs → (c : List ℕ) → Contains xs c → P c
contained P [] h c b = absurd (contains_none c b)
contained P (x ∷ xs) h c b = ⊎_elim (λ e. subst P e h.0) (λ later. contained P xs h.1 c later) (contains_cases x xs c b)

all_push : (P : List ℕ → Type 0) (xs : List (List ℕ)) (x : List ℕ) → AllByRecursion P xs → P x → AllByRecursion P (xs ++ x ∷ [])
all_push P [] x h p = (p, tt)
all_push P (y ∷ xs) x h p = (h.0, all_push P xs x h.1 p)

sorted_push : (xs : List (List ℕ)) (x : List ℕ) → IsStrictlySortedBy (slice_cmp nat_cmp) xs → AllByRecursion (λ y. slice_cmp nat_cmp y x ≡ Less) xs → IsStrictlySortedBy (slice_cmp nat_cmp) (xs ++ x ∷ [])
unfolding IsStrictlySortedBy
sorted_push [] x s h = (tt, tt)
sorted_push (y ∷ xs) x s h = (all_push (λ z. slice_cmp nat_cmp y z ≡ Less) xs x s.0 h.0, sorted_push xs x s.1 h.1)

pub rising_push : (xs : List (List ℕ)) (x : List ℕ) → AreRising xs → ((c : List ℕ) → Contains xs c → slice_cmp nat_cmp c x ≡ Less) → AreRising (xs ++ x ∷ [])
rising_push xs x s h = sorted_push xs x s (all_contained (λ y. slice_cmp nat_cmp y x ≡ Less) xs h)

pub rising_none : AreRising []
unfolding IsStrictlySortedBy
rising_none = tt

pub rising_first : (x : List ℕ) (xs : List (List ℕ)) → AreRising (x ∷ xs) → (c : List ℕ) → Contains xs c → slice_cmp nat_cmp x c ≡ Less
unfolding IsStrictlySortedBy
rising_first x xs s = contained (λ y. slice_cmp nat_cmp x y ≡ Less) xs s.0

pub rising_rest : (x : List ℕ) (xs : List (List ℕ)) → AreRising (x ∷ xs) → AreRising xs
unfolding IsStrictlySortedBy
rising_rest x xs s = s.1

not_below_itself : (o : Ordering) → o ≡ ordering_reverse o → o ≡ Less → ⊥
not_below_itself Less e f = absurd (true≢false (ap is_lt e))
not_below_itself Equal e f = absurd (true≢false (sym (ap is_lt f)))
not_below_itself Greater e f = absurd (true≢false (sym (ap is_lt f)))

pub irreflexive : (c : List ℕ) → slice_cmp nat_cmp c c ≡ Less → ⊥
irreflexive c e = not_below_itself (slice_cmp nat_cmp c c) (nat_list_cmp_total.antisymm c c) e

pub transitive : (a b c : List ℕ) → slice_cmp nat_cmp a b ≡ Less → slice_cmp nat_cmp b c ≡ Less → slice_cmp nat_cmp a c ≡ Less
transitive a b c = nat_list_cmp_total.trans a b c

first_same : (a b : List ℕ) (xs ys : List (List ℕ)) → AreRising (a ∷ xs) → AreRising (b ∷ ys) → Contains (b ∷ ys) a → Contains (a ∷ xs) b → a ≡ b
first_same a b xs ys s t h k =
    ⊎_elim
    (λ e. sym e)
    (λ later. ⊎_elim
    (λ e. e)
    (λ other. absurd (irreflexive a (transitive a b a (rising_first a xs s b other) (rising_first b ys t a later))))
    (contains_cases a xs b k))
    (contains_cases b ys a h)

rest_within : (a b : List ℕ) (xs ys : List (List ℕ)) → AreRising (a ∷ xs) → a ≡ b → ((c : List ℕ) → Contains (a ∷ xs) c → Contains (b ∷ ys) c) → (c : List ℕ) → Contains xs c → Contains ys c
rest_within a b xs ys s e f c h =
    ⊎_elim
    (λ same. absurd (irreflexive c (subst (λ (z : List ℕ). slice_cmp nat_cmp z c ≡ Less) (e ∙ same) (rising_first a xs s c h))))
    (λ later. later)
    (contains_cases b ys c (f c (contains_later a xs c h)))

-- two rising lists with the same members are one
pub rising_is_one : (xs ys : List (List ℕ)) → AreRising xs → AreRising ys → ((c : List ℕ) → Contains xs c → Contains ys c) → ((c : List ℕ) → Contains ys c → Contains xs c) → xs ≡ ys
rising_is_one [] [] s t f g = refl
rising_is_one [] (b ∷ ys) s t f g = absurd (contains_none b (g b (contains_first b ys)))
rising_is_one (a ∷ xs) [] s t f g = absurd (contains_none a (f a (contains_first a xs)))
rising_is_one (a ∷ xs) (b ∷ ys) s t f g =
    let first : a ≡ b = first_same a b xs ys s t (f a (contains_first a xs)) (g b (contains_first b ys)) in
    let rest : xs ≡ ys = rising_is_one xs ys (rising_rest a xs s) (rising_rest b ys t) (rest_within a b xs ys s first f) (rest_within b a ys xs t (sym first) g) in
    λ i. first i ∷ rest i

-- the front of a list whose front goes on
pub take_front : (n : ℕ) (xs ys : List (List ℕ)) → take n (take n xs ++ ys) ≡ take n (xs ++ ys)
take_front zero xs ys = refl
take_front (suc n) [] ys = refl
take_front (suc n) (x ∷ xs) ys = ap (λ zs. x ∷ zs) (take_front n xs ys)

pub take_whole : (n : ℕ) (xs ys : List (List ℕ)) → length xs ≡ n → xs ≡ take n (xs ++ ys)
take_whole zero [] ys e = refl
take_whole zero (x ∷ xs) ys e = absurd (omega (arith, e))
take_whole (suc n) [] ys e = absurd (omega (arith, e))
take_whole (suc n) (x ∷ xs) ys e = ap (λ zs. x ∷ zs) (take_whole n xs ys (omega (arith, e)))
