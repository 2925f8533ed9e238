-- Lists of what is kept of the numbers from 1 to n: what is true of each, that they rise, and sums over them.
use Rattle.std.proofs.Common.{◌≡◌, ℕ, zero, suc, ◌+◌, ◌-◌, ◌*◌, ◌<◌, ◌≤◌, Bool, true, false, cond, List, [], ◌∷◌, ◌++◌, length, map, All, refl, sym, ap, subst, ◌∙◌, arith, ⊎_elim}
use Rattle.std.specs.Prelude.{filter, sum, sum_by}
use Rattle.std.specs.List.{range_with_len, flat_map}
use Rattle.std.specs.List.Sorted.{IsStrictlyIncreasing}
use Rattle.std.proofs.lemmas.Bool.{cases_Bool, cases_lt}
use Rattle.std.proofs.lemmas.List.{append-nil, map-append, length-append, get_or_append_left, get_or-append_right}
use Rattle.std.proofs.lemmas.List.Concat.{flat_map-append}
use Rattle.std.proofs.lemmas.List.Elements.{All-append, All-nil, All-push, All-weaker, filter-append}
use Rattle.std.proofs.lemmas.List.Folds.{fold-map}
use Rattle.std.proofs.lemmas.List.FromFn.{get_or-map-range_with_len, length-map-range_with_len}
use Rattle.std.proofs.lemmas.List.Sums.{sum_by_push}
use Rattle.deck_check.specs.Readings.{first}
use Rattle.deck_check.proofs.Firsts.{first_more, first_none}

pub first_suc : (n : ℕ) → first (suc n) ≡ first n ++ suc n ∷ []
first_suc n = let e : n + 1 ≡ suc n = omega arith in subst (λ (m : ℕ). first m ≡ first n ++ m ∷ []) e (first_more n)

-- ---- what is true of each

pub each_first : (P : ℕ → Type 0) (n : ℕ) → ((x : ℕ) → 1 ≤ x → x ≤ n → P x) → All P (first n)
each_first P zero h = rw first_none (All-nil P)
each_first P (suc n) h = rw (first_suc n) (All-push P (first n) (suc n) (each_first P n (λ x low high. h x low (omega arith))) (h (suc n) (omega arith) (omega arith)))

pub filter_yes : {X : Type 0} (p : X → Bool) (xs : List X) (x : X) → p x ≡ true → filter p (xs ++ x ∷ []) ≡ filter p xs ++ x ∷ []
filter_yes p xs x holds = filter-append p xs (x ∷ []) ∙ ap (λ b. filter p xs ++ cond b (x ∷ []) []) holds

pub filter_no : {X : Type 0} (p : X → Bool) (xs : List X) (x : X) → p x ≡ false → filter p (xs ++ x ∷ []) ≡ filter p xs
filter_no p xs x fails = filter-append p xs (x ∷ []) ∙ ap (λ b. filter p xs ++ cond b (x ∷ []) []) fails ∙ append-nil (filter p xs)

kept_push : {X : Type 0} (P : X → Type 0) (p : X → Bool) (xs : List X) (x : X) → All P (filter p xs) → (p x ≡ true → P x) → All P (filter p (xs ++ x ∷ []))
kept_push P p xs x all one =
    ⊎_elim
    (λ holds. rw (filter_yes p xs x holds) (All-push P (filter p xs) x all (one holds)))
    (λ fails. rw (filter_no p xs x fails) all)
    (cases_Bool (p x))

pub each_kept : (P : ℕ → Type 0) (p : ℕ → Bool) (n : ℕ) → ((x : ℕ) → 1 ≤ x → x ≤ n → p x ≡ true → P x) → All P (filter p (first n))
each_kept P p zero h = rw first_none (All-nil P)
each_kept P p (suc n) h = rw (first_suc n) (kept_push P p (first n) (suc n) (each_kept P p n (λ x low high. h x low (omega arith))) (h (suc n) (omega arith) (omega arith)))

pub each_passed : {X : Type 0} (P : X → Type 0) (f : ℕ → X) (p : X → Bool) (n : ℕ) → ((x : ℕ) → 1 ≤ x → x ≤ n → p (f x) ≡ true → P (f x)) → All P (filter p (map f (first n)))
each_passed P f p zero h = rw first_none (All-nil P)
each_passed P f p (suc n) h =
    rw (first_suc n, map-append f (first n) (suc n ∷ []))
    (kept_push P p (map f (first n)) (f (suc n)) (each_passed P f p n (λ x low high. h x low (omega arith))) (h (suc n) (omega arith) (omega arith)))

pub each_from_0 : {X : Type 0} (P : X → Type 0) (f : ℕ → X) (n : ℕ) → ((i : ℕ) → i < n → P (f i)) → All P (map f (range_with_len 0 n))
each_from_0 P f n h = λ k d lt.
    let within : k < n = omega (arith, lt, length-map-range_with_len f 0 n) in
    rw (get_or-map-range_with_len f 0 n k k d within (omega arith)) (h k within)

pub each_flat : {A : Type 0} (P : A → Type 0) (f : ℕ → List A) (n : ℕ) → ((x : ℕ) → 1 ≤ x → x ≤ n → All P (f x)) → All P (flat_map f (first n))
each_flat P f zero h = rw first_none (All-nil P)
each_flat P f (suc n) h =
    rw (first_suc n, flat_map-append f (first n) (suc n ∷ []), append-nil (f (suc n)))
    (All-append P (flat_map f (first n)) (f (suc n)) (each_flat P f n (λ x low high. h x low (omega arith))) (h (suc n) (omega arith) (omega arith)))

-- ---- lengths

pub length_flat : {A : Type 0} (f : ℕ → List A) (m n : ℕ) → ((x : ℕ) → 1 ≤ x → x ≤ n → length (f x) ≡ m) → length (flat_map f (first n)) ≡ n * m
length_flat f m zero h = rw first_none (omega arith)
length_flat f m (suc n) h =
    rw (first_suc n, flat_map-append f (first n) (suc n ∷ []), append-nil (f (suc n)), length-append (flat_map f (first n)) (f (suc n)), h (suc n) (omega arith) (omega arith), length_flat f m n (λ x low high. h x low (omega arith)))
    (omega arith)

push_count : {X : Type 0} (p : X → Bool) (xs : List X) (x : X) (n : ℕ) → length (filter p xs) ≤ n → length (filter p (xs ++ x ∷ [])) ≤ suc n
push_count p xs x n h =
    ⊎_elim
    (λ holds. rw (filter_yes p xs x holds, length-append (filter p xs) (x ∷ [])) (omega (arith, h)))
    (λ fails. rw (filter_no p xs x fails) (omega (arith, h)))
    (cases_Bool (p x))

pub few_kept : (p : ℕ → Bool) (n : ℕ) → length (filter p (first n)) ≤ n
few_kept p zero = rw first_none (omega arith)
few_kept p (suc n) = rw (first_suc n) (push_count p (first n) (suc n) n (few_kept p n))

pub few_passed : {X : Type 0} (f : ℕ → X) (p : X → Bool) (n : ℕ) → length (filter p (map f (first n))) ≤ n
few_passed f p zero = rw first_none (omega arith)
few_passed f p (suc n) = rw (first_suc n, map-append f (first n) (suc n ∷ [])) (push_count p (map f (first n)) (f (suc n)) n (few_passed f p n))

-- ---- numbers that rise

pub record IsRising (low high : ℕ) (xs : List ℕ) : Type 0 where
  pub rises : IsStrictlyIncreasing xs
  pub from : All (λ y. low ≤ y) xs
  pub to : All (λ y. y ≤ high) xs

rising_push : (xs : List ℕ) (x : ℕ) → IsStrictlyIncreasing xs → All (λ y. y < x) xs → IsStrictlyIncreasing (xs ++ x ∷ [])
rising_push xs x rises below k lt =
    let len : length (xs ++ x ∷ []) ≡ length xs + 1 = length-append xs (x ∷ []) in
    let first_within : k < length xs = omega (arith, lt, len) in
    ⊎_elim
    (λ l. rw (get_or_append_left xs (x ∷ []) 0 k first_within, get_or_append_left xs (x ∷ []) 0 (k + 1) l) (rises k l))
    (λ ge. let e : k + 1 - length xs ≡ 0 = omega (arith, first_within) in
    rw (get_or_append_left xs (x ∷ []) 0 k first_within, get_or-append_right xs (x ∷ []) (length xs) (k + 1) 0 refl ge, e) (below k 0 first_within))
    (cases_lt (k + 1) (length xs))

pub rising_none : (low high : ℕ) → IsRising low high []
rising_none low high = record { rises = λ k lt. absurd (omega arith); from = All-nil (λ y. low ≤ y); to = All-nil (λ y. y ≤ high) }

rising_more : (low high : ℕ) (xs : List ℕ) → low ≤ suc high → IsRising low high xs → IsRising low (suc high) (xs ++ suc high ∷ [])
rising_more low high xs le r = record {
  rises = rising_push xs (suc high) r.rises (All-weaker (λ y. y ≤ high) (λ y. y < suc high) (λ y h. omega (arith, h)) xs r.to);
  from = All-push (λ y. low ≤ y) xs (suc high) r.from le;
  to = All-push (λ y. y ≤ suc high) xs (suc high) (All-weaker (λ y. y ≤ high) (λ y. y ≤ suc high) (λ y h. omega (arith, h)) xs r.to) (omega arith);
}

rising_wider : (low high : ℕ) (xs : List ℕ) → IsRising low high xs → IsRising low (suc high) xs
rising_wider low high xs r = record { rises = r.rises; from = r.from; to = All-weaker (λ y. y ≤ high) (λ y. y ≤ suc high) (λ y h. omega (arith, h)) xs r.to }

pub rising_append : (low mid high : ℕ) (xs ys : List ℕ) → IsRising low mid xs → IsRising (suc mid) high ys → IsStrictlyIncreasing (xs ++ ys)
rising_append low mid high xs ys a b k lt =
    let len : length (xs ++ ys) ≡ length xs + length ys = length-append xs ys in
    ⊎_elim
    (λ l. ⊎_elim
    (λ l2. rw (get_or_append_left xs ys 0 k l, get_or_append_left xs ys 0 (k + 1) l2) (a.rises k l2))
    (λ ge. let e : k + 1 - length xs ≡ 0 = omega (arith, l) in
    let some : 0 < length ys = omega (arith, lt, len, l) in
    rw (get_or_append_left xs ys 0 k l, get_or-append_right xs ys (length xs) (k + 1) 0 refl ge, e) (omega (arith, a.to k 0 l, b.from 0 0 some)))
    (cases_lt (k + 1) (length xs)))
    (λ ge. let next : length xs ≤ k + 1 = omega (arith, ge) in
    let e : k + 1 - length xs ≡ (k - length xs) + 1 = omega (arith, ge) in
    let at : (k - length xs) + 1 < length ys = omega (arith, lt, len, ge) in
    rw (get_or-append_right xs ys (length xs) k 0 refl ge, get_or-append_right xs ys (length xs) (k + 1) 0 refl next, e) (b.rises (k - length xs) at))
    (cases_lt k (length xs))

rising_step : {X : Type 0} (num : X → ℕ) (p : X → Bool) (xs : List X) (x : X) (low high : ℕ) → low ≤ suc high → num x ≡ suc high → IsRising low high (map num (filter p xs)) → IsRising low (suc high) (map num (filter p (xs ++ x ∷ [])))
rising_step num p xs x low high le e r =
    ⊎_elim
    (λ holds. rw (filter_yes p xs x holds, map-append num (filter p xs) (x ∷ []), e) (rising_more low high (map num (filter p xs)) le r))
    (λ fails. rw (filter_no p xs x fails) (rising_wider low high (map num (filter p xs)) r))
    (cases_Bool (p x))

-- numbers k + x of what is kept of the numbers x
pub rising_kept : (k : ℕ) (num : ℕ → ℕ) (p : ℕ → Bool) (n : ℕ) → ((x : ℕ) → num x ≡ k + x) → IsRising (k + 1) (k + n) (map num (filter p (first n)))
rising_kept k num p zero e = rw first_none (rising_none (k + 1) (k + 0))
rising_kept k num p (suc n) e =
    let s : k + suc n ≡ suc (k + n) = omega arith in
    rw (first_suc n, s) (rising_step num p (first n) (suc n) (k + 1) (k + n) (omega arith) (e (suc n) ∙ s) (rising_kept k num p n e))

pub rising_passed : {X : Type 0} (k : ℕ) (num : X → ℕ) (f : ℕ → X) (p : X → Bool) (n : ℕ) → ((x : ℕ) → num (f x) ≡ k + x) → IsRising (k + 1) (k + n) (map num (filter p (map f (first n))))
rising_passed k num f p zero e = rw first_none (rising_none (k + 1) (k + 0))
rising_passed k num f p (suc n) e =
    let s : k + suc n ≡ suc (k + n) = omega arith in
    rw (first_suc n, map-append f (first n) (suc n ∷ []), s) (rising_step num p (map f (first n)) (f (suc n)) (k + 1) (k + n) (omega arith) (e (suc n) ∙ s) (rising_passed k num f p n e))

pub map_map : {A B C : Type 0} (f : A → B) (g : B → C) (xs : List A) → map g (map f xs) ≡ map (λ x. g (f x)) xs
map_map f g [] = refl
map_map f g (x ∷ xs) = ap (λ t. g (f x) ∷ t) (map_map f g xs)

-- ---- sums: what is left out counts nothing

sum_step : {X : Type 0} (w : X → ℕ) (p : X → Bool) (xs : List X) (x : X) (total : ℕ) → (p x ≡ false → w x ≡ 0) → sum_by w (filter p xs) ≡ total → sum_by w (filter p (xs ++ x ∷ [])) ≡ total + w x
sum_step w p xs x total none h =
    ⊎_elim
    (λ holds. rw (filter_yes p xs x holds, sum_by_push w (filter p xs) x, h) refl)
    (λ fails. rw (filter_no p xs x fails, none fails, h) (omega arith))
    (cases_Bool (p x))

pub sum_passed : {X : Type 0} (w : X → ℕ) (f : ℕ → X) (p : X → Bool) (v : ℕ → ℕ) (n : ℕ) → ((x : ℕ) → w (f x) ≡ v x) → ((x : ℕ) → p (f x) ≡ false → w (f x) ≡ 0) → sum_by w (filter p (map f (first n))) ≡ sum (map v (first n))
sum_passed w f p v zero e none = rw first_none refl
sum_passed w f p v (suc n) e none =
    rw (first_suc n, map-append f (first n) (suc n ∷ []), map-append v (first n) (suc n ∷ []), sum_by_push (λ (x : ℕ). x) (map v (first n)) (v (suc n)), sym (e (suc n)))
    (sum_step w p (map f (first n)) (f (suc n)) (sum (map v (first n))) (none (suc n)) (sum_passed w f p v n e none))

kept_step : (w : ℕ → ℕ) (p : ℕ → Bool) (xs : List ℕ) (x total v : ℕ) → (p x ≡ true → w x ≡ v) → (p x ≡ false → v ≡ 0) → sum_by w (filter p xs) ≡ total → sum_by w (filter p (xs ++ x ∷ [])) ≡ total + v
kept_step w p xs x total v same none h =
    ⊎_elim
    (λ holds. rw (filter_yes p xs x holds, sum_by_push w (filter p xs) x, h, same holds) refl)
    (λ fails. rw (filter_no p xs x fails, none fails, h) (omega arith))
    (cases_Bool (p x))

pub sum_kept : {X : Type 0} (w : X → ℕ) (f : ℕ → X) (p : ℕ → Bool) (v : ℕ → ℕ) (n : ℕ) → ((x : ℕ) → 1 ≤ x → x ≤ n → w (f x) ≡ v x) → ((x : ℕ) → 1 ≤ x → x ≤ n → p x ≡ false → v x ≡ 0) → sum_by w (map f (filter p (first n))) ≡ sum (map v (first n))
sum_kept w f p v n e none = fold-map (λ a x. a + w x) f 0 (filter p (first n)) ∙ weighed (λ x. w (f x)) p v n e none
  where
    weighed : (w : ℕ → ℕ) (p : ℕ → Bool) (v : ℕ → ℕ) (n : ℕ) → ((x : ℕ) → 1 ≤ x → x ≤ n → w x ≡ v x) → ((x : ℕ) → 1 ≤ x → x ≤ n → p x ≡ false → v x ≡ 0) → sum_by w (filter p (first n)) ≡ sum (map v (first n))
    weighed w p v zero e none = rw first_none refl
    weighed w p v (suc n) e none =
        rw (first_suc n, map-append v (first n) (suc n ∷ []), sum_by_push (λ (x : ℕ). x) (map v (first n)) (v (suc n)))
        (kept_step w p (first n) (suc n) (sum (map v (first n))) (v (suc n)) (λ h. e (suc n) (omega arith) (omega arith)) (none (suc n) (omega arith) (omega arith))
        (weighed w p v n (λ x low high. e x low (omega (arith, high))) (λ x low high. none x low (omega (arith, high)))))
