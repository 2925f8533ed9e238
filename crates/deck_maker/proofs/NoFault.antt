-- A trial deck meets no row of the fault table.
use Rattle.std.proofs.Common.{◌≡◌, ℕ, zero, suc, ◌+◌, ◌-◌, ◌/◌, ◌%◌, ◌≤◌, Bool, true, false, not, cond, ◌&&◌, ◌==◌, List, [], ◌∷◌, map, get_or, Option, Some, None, refl, sym, subst, arith, ⊎_elim}
use Rattle.std.specs.Prelude.{nat_le, nat_lt, is_some, sum, if◌then◌else◌}
use Rattle.std.proofs.lemmas.Bool.{and_parts, cases_eq, eq-eqb, ne_eqb, lt-leb, leb-true}
use Rattle.deck_lines.specs.Body.{BodyParts}
use Rattle.deck_lines.specs.declared.head.Head.TheVariants as heads
use Rattle.deck_check.specs.DeckFault as table
use Rattle.deck_check.specs.DeckFault.{is_bad_point}
use Rattle.deck_check.specs.FaultTable.{Row, IsUnmet, is_in, upto}
use Rattle.deck_check.specs.Readings.{first, is_absent, is_there, plant_head, numbers_in, fuel, full, least, come, gone, projects}
use Rattle.deck_maker.specs.TrialDeck.{machine, plant, plant_place, thermal, thermal_place}
use Rattle.deck_maker.proofs.Draws.{draw_below}
use Rattle.deck_maker.proofs.Reading.{says}

guarded : (p q r h : Bool) → (p ≡ true → q ≡ true → r ≡ true → h ≡ false) → (p && (q && (r && h))) ≡ false
guarded true true true h f = f refl refl refl
guarded true true false h f = refl
guarded true false r h f = refl
guarded false q r h f = refl

pub unmet : (row : Row) → ((a b c : ℕ) → is_in row.a a ≡ true → is_in (row.b a) b ≡ true → is_in (row.c a b) c ≡ true → row.holds a b c ≡ false) → IsUnmet row
unmet row f = λ a b c. guarded (is_in row.a a) (is_in (row.b a) b) (is_in (row.c a b) c) (row.holds a b c) (f a b c)

pub and_false : (b : Bool) → (b && false) ≡ false
and_false true = refl
and_false false = refl

pub span_low : (low high n : ℕ) → (nat_le low n && nat_le n high) ≡ true → low ≤ n
span_low low high n h = leb-true low n (and_parts (nat_le low n) (nat_le n high) h).0

pub span_high : (low high n : ℕ) → (nat_le low n && nat_le n high) ≡ true → n ≤ high
span_high low high n h = leb-true n high (and_parts (nat_le low n) (nat_le n high) h).1

-- ---- what every deck has, and its loads and shapes

pub no_years : (s y c : ℕ) → IsUnmet (table.no_years (says s y c))
no_years s y c = unmet (table.no_years (says s y c)) (λ a b k p q r. refl)

pub no_periods : (s y c : ℕ) → IsUnmet (table.no_periods (says s y c))
no_periods s y c = unmet (table.no_periods (says s y c)) (λ a b k p q r. refl)

pub no_rate : (s y c : ℕ) → IsUnmet (table.no_rate (says s y c))
no_rate s y c = unmet (table.no_rate (says s y c)) (λ a b k p q r. refl)

pub no_ens : (s y c : ℕ) → IsUnmet (table.no_ens (says s y c))
no_ens s y c = unmet (table.no_ens (says s y c)) (λ a b k p q r. refl)

pub no_load : (s y c : ℕ) → IsUnmet (table.no_load (says s y c))
no_load s y c = unmet (table.no_load (says s y c)) (λ a b k p q r. rw p refl)

pub load_count : (s y c : ℕ) → IsUnmet (table.load_count (says s y c))
load_count s y c = unmet (table.load_count (says s y c)) (λ a b k p q r. rw p refl)

pub no_shape : (s y c : ℕ) → IsUnmet (table.no_shape (says s y c))
no_shape s y c = unmet (table.no_shape (says s y c)) (λ a b k p q r. ⊎_elim (λ e. rw (p, eq-eqb 1 b e) refl) (λ ne. rw (p, ne_eqb 1 b ne) refl) (cases_eq 1 b))

good_point : (i : ℕ) → is_in (upto 3) i ≡ true → is_bad_point i (0 ∷ 10_000 ∷ 5000 ∷ 8000 ∷ 10_000 ∷ 500 ∷ []) ≡ false
good_point zero h = absurd (omega (arith, span_low 1 3 zero h))
good_point (suc zero) h = refl
good_point (suc (suc zero)) h = refl
good_point (suc (suc (suc zero))) h = refl
good_point (suc (suc (suc (suc i)))) h = absurd (omega (arith, span_high 1 3 (suc (suc (suc (suc i)))) h))

shape_at : (s y c a b k : ℕ) → 1 ≡ a → is_in ((table.shape_form (says s y c)).b a) b ≡ true → (table.shape_form (says s y c)).holds a b k ≡ false
shape_at s y c a b k e = subst (λ (x : ℕ). is_in ((table.shape_form (says s y c)).b x) b ≡ true → (table.shape_form (says s y c)).holds x b k ≡ false) e (good_point b)

no_points : (s y c a b : ℕ) → (1 ≡ a → ⊥) → is_in ((table.shape_form (says s y c)).b a) b ≡ true → is_in (upto 0) b ≡ true
no_points s y c a b ne h = rw (ne_eqb 1 a ne) at h

pub shape_form : (s y c : ℕ) → IsUnmet (table.shape_form (says s y c))
shape_form s y c =
    unmet (table.shape_form (says s y c))
    (λ a b k p q r. ⊎_elim (λ e. shape_at s y c a b k e q) (λ ne. let h = no_points s y c a b ne q in absurd (omega (arith, span_low 1 0 b h, span_high 1 0 b h))) (cases_eq 1 a))

-- ---- units

-- what is so of no body, of every plant's and of every candidate's is so of what stands at a head of a unit
pub if_known : (P : Option BodyParts → Type 0) (b : Bool) (body : BodyParts) → P None → P (Some body) → P (cond b (Some body) None)
if_known P true body n k = k
if_known P false body n k = n

pub at_unit : (s y c : ℕ) (P : Option BodyParts → Type 0) → P None → ((p : ℕ) → P (Some (plant s p).body)) → ((k : ℕ) → P (Some (thermal s k).body)) → (a : ℕ) → P (says s y c (plant_head a))
at_unit s y c P n p k a = elim (nat_le a 40) as (λ b. P (says s y c (if b then heads.Plant a else heads.Thermal (a - 40)))) [
  | true ↦ if_known P (nat_le 1 a && nat_le a 6) (plant s a).body n (p a)
  | false ↦ if_known P (nat_le 1 (a - 40) && nat_le (a - 40) c) (thermal s (a - 40)).body n (k (a - 40))
]

one_or_two : (s y c f : ℕ) → 1 ≤ f → f ≤ 2 → is_absent (says s y c) (heads.Fuel f) ≡ false
one_or_two s y c zero low high = absurd (omega (arith, low))
one_or_two s y c (suc zero) low high = refl
one_or_two s y c (suc (suc zero)) low high = refl
one_or_two s y c (suc (suc (suc f))) low high = absurd (omega (arith, high))

-- where a body names this fuel, b is false
abbrev FuelIs : ℕ → Bool → Option BodyParts → Type 0
FuelIs f b None = Unit {0}
FuelIs f b (Some body) = f ≡ get_or body.numbers 5 0 → b ≡ false

fuel_there : (s y c a f : ℕ) → FuelIs f (is_absent (says s y c) (heads.Fuel f)) (says s y c (plant_head a)) → f ≡ fuel (says s y c) a → (is_there (says s y c) (plant_head a) && is_absent (says s y c) (heads.Fuel f)) ≡ false
fuel_there s y c a f h e = known_fuel (says s y c (plant_head a)) (is_absent (says s y c) (heads.Fuel f)) h e
  where
    known_fuel : (o : Option BodyParts) (b : Bool) → FuelIs f b o → f ≡ get_or (numbers_in o) 5 0 → (is_some o && b) ≡ false
    known_fuel None b h e = refl
    known_fuel (Some body) b h e = h e

pub no_fuel : (s y c : ℕ) → IsUnmet (table.no_fuel (says s y c))
no_fuel s y c =
    unmet (table.no_fuel (says s y c))
    (λ a f k p q r.
    let e : f ≡ fuel (says s y c) a = omega (arith, span_low (fuel (says s y c) a) (fuel (says s y c) a) f q, span_high (fuel (says s y c) a) (fuel (says s y c) a) f q) in
    fuel_there s y c a f
    (at_unit s y c (FuelIs f (is_absent (says s y c) (heads.Fuel f))) tt
    (λ n e. one_or_two s y c f (omega (arith, e)) (omega (arith, e, draw_below s (plant_place n + 2) 2 (omega arith))))
    (λ n e. one_or_two s y c f (omega (arith, e)) (omega (arith, e, draw_below s (thermal_place n + 2) 2 (omega arith))))
    a) e)

abbrev HasBlocks : Option BodyParts → Type 0
HasBlocks o = nat_lt (get_or (numbers_in o) 2 0) (get_or (numbers_in o) 1 0) ≡ false

half : (n : ℕ) → nat_lt n (n / 2) ≡ false
half n = lt-leb (suc n) (n / 2) (omega arith)

pub blocks : (s y c : ℕ) → IsUnmet (table.blocks (says s y c))
blocks s y c =
    unmet (table.blocks (says s y c))
    (λ a b k p q r. at_unit s y c HasBlocks refl (λ n. half (machine s (plant_place n) 30).full) (λ n. half (machine s (thermal_place n) 40).full) a)

pub no_plant : (s y c : ℕ) → IsUnmet (table.no_plant (says s y c))
no_plant s y c = unmet (table.no_plant (says s y c)) (λ a b k p q r. refl)

pub none_gone : (xs : List ℕ) → sum (map (λ (u : ℕ). 0) xs) ≡ 0
none_gone [] = refl
none_gone (x ∷ xs) = none_gone xs

pub negative : (s y c : ℕ) → IsUnmet (table.negative (says s y c))
negative s y c =
    unmet (table.negative (says s y c))
    (λ a b k p q r. lt-leb (suc (come (says s y c) a b)) (gone (says s y c) a b) (let none : gone (says s y c) a b ≡ 0 = none_gone (first b) in omega (arith, none)))

pub bad_weights : (s y c : ℕ) → IsUnmet (table.bad_weights (says s y c))
bad_weights s y c =
    unmet (table.bad_weights (says s y c))
    (λ a b k p q r. let e : a ≡ 10_000 = omega (arith, span_low 10_000 10_000 a p, span_high 10_000 10_000 a p) in rw (eq-eqb a 10_000 e) refl)

-- ---- the river

pub no_group : (s y c : ℕ) → IsUnmet (table.no_group (says s y c))
unfolding first
no_group s y c =
    unmet (table.no_group (says s y c))
    (λ a b k p q r. ⊎_elim (λ e. rw (eq-eqb 1 a e) (and_false _)) (λ ne. rw (ne_eqb 1 a ne) refl) (cases_eq 1 a))

-- there is one project, of group 1
one_project : (s y c g j : ℕ) → is_in (upto (projects (says s y c) g)) j ≡ true → (1 ≡ g) × (1 ≡ j)
one_project s y c g j h =
    ⊎_elim
    (λ e. (e, let k : is_in (upto 1) j ≡ true = subst (λ (x : ℕ). is_in (upto (projects (says s y c) x)) j ≡ true) (sym e) h in omega (arith, span_low 1 1 j k, span_high 1 1 j k)))
    (λ ne. let k : is_in (upto 0) j ≡ true = rw (ne_eqb 1 g ne) at h in absurd (omega (arith, span_low 1 0 j k, span_high 1 0 j k)))
    (cases_eq 1 g)

pub no_project : (s y c : ℕ) → IsUnmet (table.no_project (says s y c))
no_project s y c =
    unmet (table.no_project (says s y c))
    (λ a b k p q r. let o = one_project s y c a b q in rw (eq-eqb 1 a o.0, eq-eqb 1 b o.1) refl)

-- what is so of periods 1 and 2 of project 1 is so wherever water is looked for
at_water : (s y c : ℕ) (P : ℕ → ℕ → ℕ → Bool) → P 1 1 1 ≡ false → P 1 1 2 ≡ false → (g j m : ℕ) → is_in (upto (projects (says s y c) g)) j ≡ true → is_in (upto 2) m ≡ true → P g j m ≡ false
at_water s y c P one two g j m h k =
    let o = one_project s y c g j h in
    subst (λ (x : ℕ). P x j m ≡ false) o.0 (subst (λ (x : ℕ). P 1 x m ≡ false) o.1 (at_period m k))
  where
    at_period : (m : ℕ) → is_in (upto 2) m ≡ true → P 1 1 m ≡ false
    at_period zero k = absurd (omega (arith, span_low 1 2 zero k))
    at_period (suc zero) k = one
    at_period (suc (suc zero)) k = two
    at_period (suc (suc (suc m))) k = absurd (omega (arith, span_high 1 2 (suc (suc (suc m))) k))

pub no_water : (s y c : ℕ) → IsUnmet (table.no_water (says s y c))
no_water s y c = unmet (table.no_water (says s y c)) (λ a b k p q r. at_water s y c (table.no_water (says s y c)).holds refl refl a b k q r)

pub water_count : (s y c : ℕ) → IsUnmet (table.water_count (says s y c))
water_count s y c = unmet (table.water_count (says s y c)) (λ a b k p q r. at_water s y c (table.water_count (says s y c)).holds refl refl a b k q r)

pub step_water : (s y c : ℕ) → IsUnmet (table.step_water (says s y c))
step_water s y c = unmet (table.step_water (says s y c)) (λ a b k p q r. at_water s y c (table.step_water (says s y c)).holds refl refl a b k q r)

-- ---- later statements, and the step of the grid

pub old_form : (s y c : ℕ) → IsUnmet (table.old_form (says s y c))
old_form s y c =
    unmet (table.old_form (says s y c))
    (λ a b k p q r. rw (and_false (a == 1), and_false (a == 2), and_false (a == 3)) refl)

whole_step : (n : ℕ) → not (n % 1 == 0) ≡ false
whole_step n = let e : n % 1 ≡ 0 = omega arith in rw (eq-eqb (n % 1) 0 e) refl

pub step_unit : (s y c : ℕ) → IsUnmet (table.step_unit (says s y c))
step_unit s y c =
    unmet (table.step_unit (says s y c))
    (λ a b k p q r. rw (whole_step (least (says s y c) a), whole_step (full (says s y c) a)) refl)
