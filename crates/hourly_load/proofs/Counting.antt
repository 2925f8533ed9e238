-- Counts of loads by megawatt.
use Rattle.std.proofs.Common.{◌≡◌, ℕ, zero, suc, ◌+◌, ◌-◌, ◌<◌, ◌≤◌, List, [], ◌∷◌, length, drop, slice_index, get_or, set, sum, All, false, cond, eqb, ltb, refl, sym, ◌∙◌, arith, inl, inr}
use Rattle.std.proofs.lemmas.Bool.{cases_lt, le-ltb, lt-ltb}
use Rattle.std.proofs.lemmas.Bool.Decides.{nat_tests}
use Rattle.std.proofs.lemmas.List.{drop_all, get_or-set_other, get_or-set_same}
use Rattle.std.proofs.lemmas.List.Elements.{All-head, All-tail}
use Rattle.std.proofs.lemmas.List.Sums.{sum_by-cons, sum_by-drop_more, sum_by-take-drop}
use Rattle.wasp_fixed.specs.Curves.{area}
use Rattle.wasp_fixed.proofs.Areas.{area-more}
use Rattle.hourly_load.specs.Hours.{above, exactly}

above-cons : (load x : ℕ) (loads : List ℕ) → above (load ∷ loads) x ≡ cond (ltb x load) 1 0 + above loads x
above-cons load x loads = sum_by-cons (λ n. cond (ltb x n) 1 0) load loads

exactly-cons : (load x : ℕ) (loads : List ℕ) → exactly (load ∷ loads) x ≡ cond (eqb load x) 1 0 + exactly loads x
exactly-cons load x loads = sum_by-cons (λ n. cond (eqb n x) 1 0) load loads

-- a load above x is one of exactly the next megawatt, or one above that
one_step : (load x : ℕ) → cond (ltb x load) 1 0 ≡ cond (eqb load (x + 1)) 1 0 + cond (ltb (x + 1) load) 1 0
one_step load x = grind (arith, nat_tests)

pub above-step : (loads : List ℕ) (x : ℕ) → above loads x ≡ exactly loads (x + 1) + above loads (x + 1)
above-step [] x = refl
above-step (load ∷ loads) x = omega (arith, above-cons load x loads, above-cons load (x + 1) loads, exactly-cons load (x + 1) loads, one_step load x, above-step loads x)

-- none is above what bounds all
pub above-past : (loads : List ℕ) (peak x : ℕ) → All (λ load. load ≤ peak) loads → peak ≤ x → above loads x ≡ 0
above-past [] peak x all le = refl
above-past (load ∷ loads) peak x all le =
    let here : load ≤ peak = All-head (λ n. n ≤ peak) load loads all in
    let e : ltb x load ≡ false = le-ltb x load (omega arith) in
    let rest = above-past loads peak x (All-tail (λ n. n ≤ peak) load loads all) le in
    above-cons load x loads ∙ rw (e, rest) refl

-- fewer are above more
pub above-falls : (loads : List ℕ) (x y : ℕ) → x ≤ y → above loads y ≤ above loads x
above-falls [] x y le = omega arith
above-falls (load ∷ loads) x y le =
    let one : cond (ltb y load) 1 0 ≤ cond (ltb x load) 1 0 = grind (arith, nat_tests) in
    omega (arith, above-cons load x loads, above-cons load y loads, one, above-falls loads x y le)

-- the counts from a megawatt on add up to the loads above it
sum-above-by : (d : ℕ) (loads counts : List ℕ) (x : ℕ) → d ≡ length counts - x → All (λ load. load ≤ length counts) loads → ((k : ℕ) → slice_index counts k ≡ exactly loads (k + 1)) → sum (drop x counts) ≡ above loads x
sum-above-by zero loads counts x e all value =
    rw (drop_all x counts (omega arith), above-past loads (length counts) x all (omega arith)) refl
sum-above-by (suc d) loads counts x e all value =
    let more : sum (drop x counts) ≡ get_or counts x 0 + sum (drop (x + 1) counts) = sum_by-drop_more (λ n. n) counts x 0 (omega arith) in
    let here : get_or counts x 0 ≡ exactly loads (x + 1) = value x in
    omega (arith, more, here, sum-above-by d loads counts (x + 1) (omega arith) all value, above-step loads x)

pub sum-above : (loads counts : List ℕ) (x : ℕ) → All (λ load. load ≤ length counts) loads → ((k : ℕ) → slice_index counts k ≡ exactly loads (k + 1)) → sum (drop x counts) ≡ above loads x
sum-above loads counts x all value = sum-above-by (length counts - x) loads counts x refl all value

-- ---- sums from the end of a list

pub sum-back : (old counts : List ℕ) (x total : ℕ) → 0 < x → x ≤ length counts → length counts ≡ length old → total ≡ sum (drop x old) → ((k : ℕ) → k < x → slice_index counts k ≡ slice_index old k) → total + slice_index counts (x - 1) ≡ sum (drop (x - 1) old)
sum-back old counts x total some within len so_far kept =
    let e : x - 1 + 1 ≡ x = omega arith in
    let more : sum (drop (x - 1) old) ≡ get_or old (x - 1) 0 + sum (drop (x - 1 + 1) old) = sum_by-drop_more (λ n. n) old (x - 1) 0 (omega arith) in
    let here : slice_index counts (x - 1) ≡ get_or old (x - 1) 0 = kept (x - 1) (omega arith) in
    let rest : sum (drop (x - 1 + 1) old) ≡ total = rw e (sym so_far) in
    omega (arith, more, here, rest)

pub sum-drop-le : (old : List ℕ) (x : ℕ) → sum (drop x old) ≤ sum old
sum-drop-le old x = omega (arith, sum_by-take-drop (λ n. n) old x)

pub sums-more : (old counts : List ℕ) (x value : ℕ) → 0 < x → x ≤ length counts → value ≡ sum (drop (x - 1) old) → ((k : ℕ) → x ≤ k → slice_index counts k ≡ sum (drop k old)) → (k : ℕ) → x - 1 ≤ k → slice_index (set counts (x - 1) value) k ≡ sum (drop k old)
sums-more old counts x value some within is done k le =
    elim (cases_lt k x) [
      | inl lt ↦
          let e : k ≡ x - 1 = omega arith in
          rw e (get_or-set_same counts (x - 1) value 0 (omega arith) ∙ is)
      | inr ge ↦ get_or-set_other counts (x - 1) k value 0 (λ e. omega (arith, e)) ∙ done k ge
    ]

-- ---- the area below the count is the sum of the loads

area-one : (f : ℕ → ℕ) (n : ℕ) → area f 0 (suc n) ≡ area f 0 n + f n
area-one f n = let e : n + 1 ≡ suc n = omega arith in rw e at (area-more f 0 n (omega arith))

area-none : (f : ℕ → ℕ) (n : ℕ) → ((x : ℕ) → f x ≡ 0) → area f 0 n ≡ 0
area-none f zero z = refl
area-none f (suc n) z = omega (arith, area-one f n, area-none f n z, z n)

area-two : (f g h : ℕ → ℕ) (n : ℕ) → ((x : ℕ) → h x ≡ f x + g x) → area h 0 n ≡ area f 0 n + area g 0 n
area-two f g h zero e = refl
area-two f g h (suc n) e = omega (arith, area-one f n, area-one g n, area-one h n, area-two f g h n e, e n)

below_load : ℕ → ℕ → ℕ
below_load load x = cond (ltb x load) 1 0

area-below : (load n : ℕ) → (n ≤ load → area (below_load load) 0 n ≡ n) × (load ≤ n → area (below_load load) 0 n ≡ load)
unfolding below_load
area-below load zero = (λ h. refl, λ h. omega arith)
area-below load (suc n) =
    let rest = area-below load n in
    elim (cases_lt n load) [
      | inl lt ↦
          let one : below_load load n ≡ 1 = rw (lt-ltb n load lt) refl in
          let e : area (below_load load) 0 (suc n) ≡ suc n = omega (arith, area-one (below_load load) n, one, rest.0 (omega arith)) in
          (λ h. e, λ h. omega (arith, e))
      | inr ge ↦
          let one : below_load load n ≡ 0 = rw (le-ltb n load ge) refl in
          let e : area (below_load load) 0 (suc n) ≡ load = omega (arith, area-one (below_load load) n, one, rest.1 ge) in
          (λ h. absurd (omega arith), λ h. e)
    ]

pub area-above : (loads : List ℕ) (peak : ℕ) → All (λ load. load ≤ peak) loads → area (above loads) 0 peak ≡ sum loads
unfolding below_load
area-above [] peak all = area-none (above []) peak (λ x. refl)
area-above (load ∷ loads) peak all =
    let here : load ≤ peak = All-head (λ n. n ≤ peak) load loads all in
    let rest = area-above loads peak (All-tail (λ n. n ≤ peak) load loads all) in
    let both = area-two (below_load load) (above loads) (above (load ∷ loads)) peak (λ x. above-cons load x loads) in
    let first : area (below_load load) 0 peak ≡ load = (area-below load peak).1 here in
    let more : sum (load ∷ loads) ≡ load + sum loads = sum_by-cons (λ n. n) load loads in
    omega (arith, both, first, rest, more)
