-- What a deck that meets no row says of hydro groups and their water, and of the weights of the conditions.
use Rattle.std.proofs.Common.{◌≡◌, ℕ, ◌+◌, ◌*◌, ◌/◌, ◌%◌, ◌<◌, ◌≤◌, ◌==◌, ◌||◌, Bool, true, false, not, List, [], ◌∷◌, length, slice_index, slice_index_or, All, refl, sym, subst, ◌∙◌, arith, ⊎_elim}
use Rattle.std.specs.Prelude.{sum}
use Rattle.std.specs.List.{flat_map, list_any, range_with_len}
use Rattle.std.proofs.lemmas.Bool.{both_ways, cases_Bool, eqb-true, not-false, or_parts}
use Rattle.std.proofs.lemmas.List.{get_or_default}
use Rattle.std.proofs.lemmas.List.Elements.{All-cons, All-nil}
use Rattle.std.proofs.lemmas.List.Folds.{list_any_at}
use Rattle.std.proofs.lemmas.List.FromFn.{get_or-range_with_len, length-map-range_with_len, length-range_with_len}
use Rattle.std.proofs.Math.Nat.{mul-add-mod_self_left, mul-mod_right, mul_assoc}
use Rattle.deck_lines.specs.declared.form.Kind.{Kind}
use Rattle.deck_lines.specs.declared.form.Kind.TheVariants as kinds
use Rattle.deck_lines.specs.declared.head.Head.TheVariants as heads
use Rattle.deck_lines.specs.Statements.{from_to}
use Rattle.year_system.specs.System.{IsGroup, IsWater}
use Rattle.deck_check.specs.DeckFault.{is_off, is_water_off, stated}
use Rattle.deck_check.specs.FaultTable.{only, upto}
use Rattle.deck_check.specs.Forms.{top}
use Rattle.checked_deck.specs.Systems.{water_in, project_water, group_of}
use Rattle.deck_check.specs.Readings.{Says, first, is_absent, is_there, number, numbers, periods, projects, step, weights}
use Rattle.checked_deck.proofs.Kept.{each_flat, each_from_0, length_flat}
use Rattle.checked_deck.proofs.PlantFacts.{on_step}
use Rattle.checked_deck.proofs.Sound.{IsSound, in_only, in_upto, most_at, row_at, stated_fails, unmet_one, unmet_three}

-- ---- the weights

by_weights : (d : Says) (P : List ℕ → Type 0) → (is_there d heads.Conditions ≡ true → P (numbers d heads.Conditions)) → P (10_000 ∷ []) → P (weights d)
by_weights d P there absent = ⊎_elim (λ t. rw t (there t)) (λ f. rw f absent) (cases_Bool (is_there d heads.Conditions))

pub weights_some : (d : Says) → IsSound d → 1 ≤ length (weights d)
weights_some d s = by_weights d (λ ws. 1 ≤ length ws) (λ t. (s.filled heads.Conditions t).some) (omega arith)

pub weights_few : (d : Says) → IsSound d → length (weights d) ≤ 5
weights_few d s = by_weights d (λ ws. length ws ≤ 5) (λ t. (s.form heads.Conditions).few) (omega arith)

at_one : (a : Kind) (i : ℕ) → slice_index_or (a ∷ []) (i % 1) kinds.Periods ≡ a
at_one a i = let e : i % 1 ≡ 0 = omega arith in rw e refl

pub weights_small : (d : Says) → IsSound d → All (λ w. w ≤ 10000) (weights d)
weights_small d s =
    by_weights d (All (λ w. w ≤ 10000))
    (λ t i e lt. let at : slice_index_or (numbers d heads.Conditions) i e ≡ number d heads.Conditions i = get_or_default (numbers d heads.Conditions) i e 0 lt in
    rw at (subst (λ k. number d heads.Conditions i ≤ top k) (at_one (from_to 0 10_000) i) (most_at d s heads.Conditions i)))
    (All-cons (λ w. w ≤ 10000) 10_000 [] (omega arith) (All-nil (λ w. w ≤ 10000)))

pub weights_whole : (d : Says) → IsSound d → sum (weights d) ≡ 10000
weights_whole d s =
    eqb-true (sum (weights d)) 10_000 (not-false (sum (weights d) == 10_000) (unmet_one 14 (only (sum (weights d))) (λ a. not (a == 10_000)) (row_at d s 13 (omega arith)) (sum (weights d)) (in_only (sum (weights d)))))

-- ---- the water of a project in a period

pub water_there : (d : Says) → IsSound d → (g j m : ℕ) → 1 ≤ g → g ≤ 2 → 1 ≤ j → j ≤ projects d g → 1 ≤ m → m ≤ periods d → is_there d (heads.Water g j m) ≡ true
water_there d s g j m g1 g2 j1 j2 m1 m2 =
    not-false (is_there d (heads.Water g j m))
    (unmet_three 17 (upto 2) (λ x. upto (projects d x)) (λ x y. upto (periods d)) (λ x y z. is_absent d (heads.Water x y z)) (row_at d s 16 (omega arith)) g j m (in_upto 2 g g1 g2) (in_upto (projects d g) j j1 j2) (in_upto (periods d) m m1 m2))

pub water_count : (d : Says) → IsSound d → (g j m : ℕ) → 1 ≤ g → g ≤ 2 → 1 ≤ j → j ≤ projects d g → 1 ≤ m → m ≤ periods d → length (numbers d (heads.Water g j m)) ≡ 3 * length (weights d)
water_count d s g j m g1 g2 j1 j2 m1 m2 =
    let test : List ℕ → Bool = λ ns. not (length ns == 3 * length (weights d)) in
    let fails = unmet_three 18 (upto 2) (λ x. upto (projects d x)) (λ x y. upto (periods d)) (λ x y z. stated d (heads.Water x y z) test) (row_at d s 17 (omega arith)) g j m (in_upto 2 g g1 g2) (in_upto (projects d g) j j1 j2) (in_upto (periods d) m m1 m2) in
    eqb-true (length (numbers d (heads.Water g j m))) (3 * length (weights d))
    (not-false (length (numbers d (heads.Water g j m)) == 3 * length (weights d)) (stated_fails d (heads.Water g j m) test fails (water_there d s g j m g1 g2 j1 j2 m1 m2)))

triple_0 : (a b c : Kind) (i : ℕ) → slice_index_or (a ∷ b ∷ c ∷ []) (3 * i % 3) kinds.Periods ≡ a
triple_0 a b c i = rw (mul-mod_right 3 i) refl

triple_1 : (a b c : Kind) (i : ℕ) → slice_index_or (a ∷ b ∷ c ∷ []) ((3 * i + 1) % 3) kinds.Periods ≡ b
triple_1 a b c i = rw (mul-add-mod_self_left 3 i 1) refl

triple_2 : (a b c : Kind) (i : ℕ) → slice_index_or (a ∷ b ∷ c ∷ []) ((3 * i + 2) % 3) kinds.Periods ≡ c
triple_2 a b c i = rw (mul-add-mod_self_left 3 i 2) refl

any_fails : (p : ℕ → Bool) (n i : ℕ) → list_any p (range_with_len 0 n) ≡ false → i < n → p i ≡ false
any_fails p n i h lt =
    let at : slice_index (range_with_len 0 n) i ≡ i = get_or-range_with_len 0 n i 0 lt ∙ omega arith in
    ⊎_elim
    (λ t. absurd (both_ways (list_any p (range_with_len 0 n)) h (list_any_at p (range_with_len 0 n) i 0 (rw (length-range_with_len 0 n) lt) (rw at t))))
    (λ f. f)
    (cases_Bool (p i))

pub water_is : (d : Says) → IsSound d → (g j m i : ℕ) → 1 ≤ g → g ≤ 2 → 1 ≤ j → j ≤ projects d g → 1 ≤ m → m ≤ periods d → i < length (weights d) → IsWater (step d) (water_in (numbers d (heads.Water g j m)) i)
water_is d s g j m i g1 g2 j1 j2 m1 m2 lt =
    let h = heads.Water g j m in
    let ns = numbers d h in
    let third : length ns / 3 ≡ length (weights d) = omega (arith, water_count d s g j m g1 g2 j1 j2 m1 m2) in
    let fails = unmet_three 29 (upto 2) (λ x. upto (projects d x)) (λ x y. upto (periods d)) (λ x y z. is_water_off d (numbers d (heads.Water x y z))) (row_at d s 26 (omega arith)) g j m (in_upto 2 g g1 g2) (in_upto (projects d g) j j1 j2) (in_upto (periods d) m m1 m2) in
    let off = or_parts (is_off d (slice_index ns (3 * i))) (is_off d (slice_index ns (3 * i + 1))) (any_fails (λ k. is_off d (slice_index ns (3 * k)) || is_off d (slice_index ns (3 * k + 1))) (length ns / 3) i fails (omega (arith, third, lt))) in
    record {
      base = subst (λ k. number d h (3 * i) ≤ top k) (triple_0 (from_to 0 20_000) (from_to 0 20_000) (from_to 0 200_000_000) i) (most_at d s h (3 * i));
      peak = subst (λ k. number d h (3 * i + 1) ≤ top k) (triple_1 (from_to 0 20_000) (from_to 0 20_000) (from_to 0 200_000_000) i) (most_at d s h (3 * i + 1));
      energy = subst (λ k. number d h (3 * i + 2) ≤ top k) (triple_2 (from_to 0 20_000) (from_to 0 20_000) (from_to 0 200_000_000) i) (most_at d s h (3 * i + 2));
      steps = (on_step d (slice_index ns (3 * i)) off.0, on_step d (slice_index ns (3 * i + 1)) off.1);
    }

-- ---- groups

pub group_is : (d : Says) → IsSound d → (g : ℕ) → 1 ≤ g → g ≤ 2 → IsGroup (step d) (periods d) (length (weights d)) (group_of d g)
group_is d s g g1 g2 = record {
  number = (g1, g2);
  existing = most_at d s (heads.Hydro g) 0;
  greatest = most_at d s (heads.Hydro g) 1;
  water =
      length_flat (λ j. flat_map (project_water d g j) (first (periods d))) (periods d * length (weights d)) (projects d g)
      (λ j j1 j2. length_flat (project_water d g j) (length (weights d)) (periods d) (λ m m1 m2. length-map-range_with_len (water_in (numbers d (heads.Water g j m))) 0 (length (weights d))))
      ∙ sym (mul_assoc (projects d g) (periods d) (length (weights d)));
  ranges =
      each_flat (IsWater (step d)) (λ j. flat_map (project_water d g j) (first (periods d))) (projects d g)
      (λ j j1 j2. each_flat (IsWater (step d)) (project_water d g j) (periods d)
      (λ m m1 m2. each_from_0 (IsWater (step d)) (water_in (numbers d (heads.Water g j m))) (length (weights d)) (λ i lt. water_is d s g j m i g1 g2 j1 j2 m1 m2 lt)));
}
