-- The numbers from 1 to n, and what is made of them, one number more.
use Rattle.std.proofs.Common.{◌≡◌, ℕ, ◌+◌, ◌<◌, Bool, false, IsTrue, List, [], ◌∷◌, ◌++◌, length, map, set, take, slice_index_or, refl, sym, ap, ◌∙◌, arith, append_assoc}
use Rattle.std.specs.Prelude.{sum, filter}
use Rattle.std.specs.List.{flat_map, range_with_len}
use Rattle.std.proofs.lemmas.List.{append-nil, flat_map_more, length-set, map-append, take_more_set}
use Rattle.std.proofs.lemmas.List.Elements.{filter-append}
use Rattle.std.proofs.lemmas.List.FromFn.{get_or-map-range_with_len, length-range_with_len, map-range_with_len_more}
use Rattle.std.proofs.lemmas.List.Sums.{sum_by_push}
use Rattle.deck_check.specs.Readings.{first}

pub length-first : (n : ℕ) → length (first n) ≡ n
unfolding first
length-first n = length-range_with_len 1 n

range_more : (a n : ℕ) → range_with_len a (n + 1) ≡ range_with_len a n ++ (a + n) ∷ []
range_more a n =
    let e = map-range_with_len_more (λ (x : ℕ). x) a n (a + n) refl in
    sym (id_map (range_with_len a (n + 1))) ∙ e ∙ ap (λ (xs : List ℕ). xs ++ (a + n) ∷ []) (id_map (range_with_len a n))
  where
    id_map : (xs : List ℕ) → map (λ (x : ℕ). x) xs ≡ xs
    id_map [] = refl
    id_map (x ∷ xs) = ap (λ (t : List ℕ). x ∷ t) (id_map xs)

pub first_more : (n : ℕ) → first (n + 1) ≡ first n ++ (n + 1) ∷ []
unfolding first
first_more n = range_more 1 n ∙ ap (λ (x : ℕ). range_with_len 1 n ++ x ∷ []) (let e : 1 + n ≡ n + 1 = omega arith in e)

pub sum_more : (f : ℕ → ℕ) (n : ℕ) → sum (map f (first (n + 1))) ≡ sum (map f (first n)) + f (n + 1)
sum_more f n = rw (first_more n, map-append f (first n) ((n + 1) ∷ [])) (sum_by_push (λ (x : ℕ). x) (map f (first n)) (f (n + 1)))

pub map_more : {X : Type 0} (f : ℕ → X) (n : ℕ) → map f (first (n + 1)) ≡ map f (first n) ++ f (n + 1) ∷ []
map_more f n = rw (first_more n, map-append f (first n) ((n + 1) ∷ [])) refl

pub filter_more_yes : (p : ℕ → Bool) (n : ℕ) → IsTrue (p (n + 1)) → filter p (first (n + 1)) ≡ filter p (first n) ++ (n + 1) ∷ []
filter_more_yes p n h = rw (first_more n, filter-append p (first n) ((n + 1) ∷ []), h) refl

pub filter_more_no : (p : ℕ → Bool) (n : ℕ) → p (n + 1) ≡ false → filter p (first (n + 1)) ≡ filter p (first n)
filter_more_no p n h = rw (first_more n, filter-append p (first n) ((n + 1) ∷ []), h) (append-nil (filter p (first n)))

pub kept_more_yes : {X : Type 0} (f : ℕ → X) (p : ℕ → Bool) (n : ℕ) → IsTrue (p (n + 1)) → map f (filter p (first (n + 1))) ≡ map f (filter p (first n)) ++ f (n + 1) ∷ []
kept_more_yes f p n h = rw (filter_more_yes p n h, map-append f (filter p (first n)) ((n + 1) ∷ [])) refl

pub kept_more_no : {X : Type 0} (f : ℕ → X) (p : ℕ → Bool) (n : ℕ) → p (n + 1) ≡ false → map f (filter p (first (n + 1))) ≡ map f (filter p (first n))
kept_more_no f p n h = rw (filter_more_no p n h) refl

pub flat_more : {X : Type 0} (f : ℕ → List X) (n : ℕ) → flat_map f (first (n + 1)) ≡ flat_map f (first n) ++ f (n + 1)
flat_more f n = rw (first_more n) (sym (flat_map_more f [] (first n) (n + 1)))

pub first_none : first 0 ≡ []
unfolding first
first_none = refl

-- the same from 0 on
pub from_0_more : {X : Type 0} (f : ℕ → X) (n : ℕ) → map f (range_with_len 0 (n + 1)) ≡ map f (range_with_len 0 n) ++ f n ∷ []
from_0_more f n = map-range_with_len_more f 0 n n (omega arith)

-- what passes a test, of what is made of the numbers
pub passed_more_yes : {X : Type 0} (f : ℕ → X) (p : X → Bool) (n : ℕ) → IsTrue (p (f (n + 1))) → filter p (map f (first (n + 1))) ≡ filter p (map f (first n)) ++ f (n + 1) ∷ []
passed_more_yes f p n h = rw (map_more f n, filter-append p (map f (first n)) (f (n + 1) ∷ []), h) refl

pub passed_more_no : {X : Type 0} (f : ℕ → X) (p : X → Bool) (n : ℕ) → p (f (n + 1)) ≡ false → filter p (map f (first (n + 1))) ≡ filter p (map f (first n))
passed_more_no f p n h = rw (map_more f n, filter-append p (map f (first n)) (f (n + 1) ∷ []), h) (append-nil (filter p (map f (first n))))

-- ---- one more behind what stood before

pub push_from_0 : {X : Type 0} (f : ℕ → X) (init old new : List X) (n : ℕ) (x : X) → new ≡ old ++ x ∷ [] → old ≡ init ++ map f (range_with_len 0 n) → x ≡ f n → new ≡ init ++ map f (range_with_len 0 (n + 1))
push_from_0 f init old new n x e h same = rw (from_0_more f n, e, h, same) (append_assoc init (map f (range_with_len 0 n)) (f n ∷ []))

pub put_flat : {X : Type 0} (f : ℕ → List X) (init old new : List X) (n : ℕ) → new ≡ old ++ f (n + 1) → old ≡ init ++ flat_map f (first n) → new ≡ init ++ flat_map f (first (n + 1))
put_flat f init old new n e h = rw (flat_more f n, e, h) (append_assoc init (flat_map f (first n)) (f (n + 1)))

pub set_from_0 : (f : ℕ → ℕ) (old new : List ℕ) (n k v : ℕ) → k < n → (length old ≡ n) × (take k old ≡ map f (range_with_len 0 k)) → new ≡ set old k v → v ≡ f k → (length new ≡ n) × (take (k + 1) new ≡ map f (range_with_len 0 (k + 1)))
set_from_0 f old new n k v lt h e same =
    let within : k < length old = omega (arith, lt, h.0) in
    (rw (e, length-set old k v) h.0, rw (e, from_0_more f k, take_more_set old k v within, h.1, same) refl)

pub map_first_at : {X : Type 0} (f : ℕ → X) (n i : ℕ) (d : X) → i < n → slice_index_or (map f (first n)) i d ≡ f (i + 1)
unfolding first
map_first_at f n i d lt = get_or-map-range_with_len f 1 n i (i + 1) d lt (omega arith)
