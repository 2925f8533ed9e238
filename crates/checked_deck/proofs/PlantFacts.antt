-- What a deck that meets no row says of plants, candidates and the step of the grid.
use Rattle.std.proofs.Common.{◌≡◌, ℕ, zero, suc, ◌+◌, ◌-◌, ◌*◌, ◌%◌, ◌<◌, ◌≤◌, ◌==◌, ◌||◌, ◌&&◌, true, false, nat_lt, [], ◌∷◌, map, refl, sym, subst, arith, ⊎_elim}
use Rattle.std.specs.Prelude.{sum}
use Rattle.std.proofs.lemmas.Bool.{and_from, both_ways, cases_Bool, cases_lt, eqb-true, le-leb, lt-leb, ltb-false, not-false, or_parts, or_left}
use Rattle.std.proofs.lemmas.List.{map-append}
use Rattle.std.proofs.lemmas.List.Sums.{sum_by_push}
use Rattle.deck_lines.specs.declared.head.Head.{Head}
use Rattle.deck_lines.specs.declared.head.Head.TheVariants as heads
use Rattle.plant_data.specs.declared.plant.Plant.{Plant}
use Rattle.year_system.specs.System.{IsPlant, full_mw}
use Rattle.year_system.specs.System as system
use Rattle.deck_check.specs.DeckFault.{is_off}
use Rattle.deck_check.specs.FaultTable.{only, upto}
use Rattle.checked_deck.specs.Systems.{thermal, plant_of, existing_in}
use Rattle.deck_check.specs.Readings.{Says, capacity, come, first, fuel, full, is_absent, is_there, least, number, number_or, peak, plant_head, step, units, units_in, years}
use Rattle.deck_check.proofs.Firsts.{first_none}
use Rattle.checked_deck.proofs.Kept.{first_suc, sum_kept, sum_passed}
use Rattle.checked_deck.proofs.Sound.{IsSound, absent_number, in_only, in_upto, low_at, most_at, row_at, unmet_one, unmet_two, years_high}

-- ---- the step

or_default : (d : Says) (h : Head) (default : ℕ) (P : ℕ → Type 0) → (is_there d h ≡ true → P (number d h 0)) → P default → P (number_or d h default)
or_default d h default P there absent =
    ⊎_elim
    (λ t. rw t (there t))
    (λ f. rw f absent)
    (cases_Bool (is_there d h))

pub step_low : (d : Says) → IsSound d → 1 ≤ step d
step_low d s = or_default d heads.Grid 1 (λ n. 1 ≤ n) (λ t. low_at d s heads.Grid 0 t (omega arith)) (omega arith)

pub step_high : (d : Says) → IsSound d → step d ≤ 20
step_high d s = or_default d heads.Grid 1 (λ n. n ≤ 20) (λ t. most_at d s heads.Grid 0) (omega arith)

pub on_step : (d : Says) (mw : ℕ) → is_off d mw ≡ false → mw % step d ≡ 0
on_step d mw h = eqb-true (mw % step d) 0 (not-false (mw % step d == 0) h)

-- ---- sums

sum_last : (f : ℕ → ℕ) (n : ℕ) → sum (map f (first (suc n))) ≡ sum (map f (first n)) + f (suc n)
sum_last f n = rw (first_suc n, map-append f (first n) (suc n ∷ [])) (sum_by_push (λ (x : ℕ). x) (map f (first n)) (f (suc n)))

pub part_within : (f : ℕ → ℕ) (n x : ℕ) → 1 ≤ x → x ≤ n → f x ≤ sum (map f (first n))
part_within f zero x low high = absurd (omega arith)
part_within f (suc n) x low high =
    ⊎_elim
    (λ l. omega (arith, sum_last f n, part_within f n x low (omega (arith, l))))
    (λ ge. let e : x ≡ suc n = omega (arith, ge, high) in rw e (omega (arith, sum_last f n)))
    (cases_lt x (suc n))

pub sum_none : (f : ℕ → ℕ) (n : ℕ) → ((x : ℕ) → 1 ≤ x → x ≤ n → f x ≡ 0) → sum (map f (first n)) ≡ 0
sum_none f zero h = rw first_none refl
sum_none f (suc n) h = rw (sum_last f n, h (suc n) (omega arith) (omega arith), sum_none f n (λ x low high. h x low (omega arith))) refl

-- ---- existing plants

-- a plant with a unit in a year has its statement
pub plant_there : (d : Says) → IsSound d → (p t : ℕ) → 1 ≤ p → p ≤ 40 → t ≤ 30 → 0 < units_in d p t → is_there d (heads.Plant p) ≡ true
plant_there d s p t low high few some = ⊎_elim (λ h. h) (λ absent. absurd (omega (arith, some, none absent))) (cases_Bool (is_there d (heads.Plant p)))
  where
    no_add : is_there d (heads.Plant p) ≡ false → (u : ℕ) → 1 ≤ u → u ≤ t → number d (heads.Add p u) 0 ≡ 0
    no_add absent u from to =
        let fails = unmet_two 12 (upto 40) (λ x. upto 30) (λ x y. (is_there d (heads.Add x y) || is_there d (heads.Retire x y)) && is_absent d (heads.Plant x)) (row_at d s 11 (omega arith)) p u (in_upto 40 p low high) (in_upto 30 u from (omega (arith, to, few))) in
        absent_number d (heads.Add p u) 0
        (⊎_elim
        (λ there. absurd (both_ways ((is_there d (heads.Add p u) || is_there d (heads.Retire p u)) && is_absent d (heads.Plant p)) fails
        (and_from (is_there d (heads.Add p u) || is_there d (heads.Retire p u)) (is_absent d (heads.Plant p)) (or_left (is_there d (heads.Add p u)) (is_there d (heads.Retire p u)) there) (rw absent refl))))
        (λ f. f)
        (cases_Bool (is_there d (heads.Add p u))))

    none : is_there d (heads.Plant p) ≡ false → units_in d p t ≡ 0
    none absent =
        let stand : number d (heads.Plant p) 0 ≡ 0 = absent_number d (heads.Plant p) 0 absent in
        let added : sum (map (λ u. number d (heads.Add p u) 0) (first t)) ≡ 0 = sum_none (λ u. number d (heads.Add p u) 0) t (no_add absent) in
        let all : come d p t ≡ 0 = rw (stand, added) refl in
        omega (arith, all)

pub units_few : (d : Says) → IsSound d → (t : ℕ) → 1 ≤ t → t ≤ years d → units d t ≤ 128
units_few d s t low high = ltb-false 128 (units d t) (unmet_two 19 (upto (years d)) (λ x. only (units d x)) (λ x n. nat_lt 128 n) (row_at d s 18 (omega arith)) t (units d t) (in_upto (years d) t low high) (in_only (units d t)))

pub plant_few : (d : Says) → IsSound d → (p t : ℕ) → 1 ≤ p → p ≤ 40 → 1 ≤ t → t ≤ years d → units_in d p t ≤ 128
plant_few d s p t from to low high = omega (arith, units_few d s t low high, part_within (λ x. units_in d x t) 40 p from to)

pub strong : (d : Says) → IsSound d → (t : ℕ) → 1 ≤ t → t ≤ years d → (capacity d t + peak d t ≤ 65535 * step d) × (capacity d t + peak d t ≤ 400000)
strong d s t low high =
    let n = capacity d t + peak d t in
    let fails = unmet_two 20 (upto (years d)) (λ x. only (capacity d x + peak d x)) (λ x m. nat_lt (65_535 * step d) m || nat_lt 400_000 m) (row_at d s 19 (omega arith)) t n (in_upto (years d) t low high) (in_only n) in
    let parts = or_parts (nat_lt (65_535 * step d) n) (nat_lt 400_000 n) fails in
    (ltb-false (65_535 * step d) n parts.0, ltb-false 400_000 n parts.1)

-- ---- the fields of a plant

-- the numbers of a plant's statement are in their ranges
pub record IsRanged (d : Says) (h : Head) : Type 0 where
  pub least : is_there d h ≡ true → 1 ≤ number d h 1
  pub whole : is_there d h ≡ true → 1 ≤ number d h 2
  pub full : number d h 2 ≤ 20000
  pub heat : number d h 3 ≤ 50000
  pub inc : number d h 4 ≤ 50000
  pub fixed : number d h 6 ≤ 10000
  pub variable : number d h 7 ≤ 100000
  pub outage : number d h 8 ≤ 10000
  pub repair : number d h 9 ≤ 8760

pub existing_ranged : (d : Says) → IsSound d → (p : ℕ) → IsRanged d (heads.Plant p)
existing_ranged d s p = record {
  least = λ t. low_at d s (heads.Plant p) 1 t (omega arith);
  whole = λ t. low_at d s (heads.Plant p) 2 t (omega arith);
  full = most_at d s (heads.Plant p) 2;
  heat = most_at d s (heads.Plant p) 3;
  inc = most_at d s (heads.Plant p) 4;
  fixed = most_at d s (heads.Plant p) 6;
  variable = most_at d s (heads.Plant p) 7;
  outage = most_at d s (heads.Plant p) 8;
  repair = most_at d s (heads.Plant p) 9;
}

pub thermal_ranged : (d : Says) → IsSound d → (k : ℕ) → IsRanged d (heads.Thermal k)
thermal_ranged d s k = record {
  least = λ t. low_at d s (heads.Thermal k) 1 t (omega arith);
  whole = λ t. low_at d s (heads.Thermal k) 2 t (omega arith);
  full = most_at d s (heads.Thermal k) 2;
  heat = most_at d s (heads.Thermal k) 3;
  inc = most_at d s (heads.Thermal k) 4;
  fixed = most_at d s (heads.Thermal k) 6;
  variable = most_at d s (heads.Thermal k) 7;
  outage = most_at d s (heads.Thermal k) 8;
  repair = most_at d s (heads.Thermal k) 9;
}

pub plant_is : (d : Says) → IsSound d → (a n : ℕ) → 1 ≤ a → a ≤ 52 → n ≤ 128 → IsRanged d (plant_head a) → is_there d (plant_head a) ≡ true → IsPlant (step d) (plant_of d a n)
plant_is d s a n low high few r there =
    let off = or_parts (is_off d (least d a)) (is_off d (full d a)) (unmet_one 28 (upto 52) (λ x. is_off d (least d x) || is_off d (full d x)) (row_at d s 25 (omega arith)) a (in_upto 52 a low high)) in
    record {
      units = few;
      least = (r.least there, ltb-false (full d a) (least d a) (unmet_one 11 (upto 52) (λ x. nat_lt (full d x) (least d x)) (row_at d s 10 (omega arith)) a (in_upto 52 a low high)));
      full = r.full;
      heat = r.heat;
      inc = r.inc;
      domestic = most_at d s (heads.Fuel (fuel d a)) 0;
      foreign = most_at d s (heads.Fuel (fuel d a)) 1;
      variable = r.variable;
      outage = r.outage;
      repair = r.repair;
      steps = (on_step d (least d a) off.0, on_step d (full d a) off.1);
    }

-- the statements of plants and candidates by their numbers
pub existing_head : (p : ℕ) → p ≤ 40 → plant_head p ≡ heads.Plant p
existing_head p high = rw (le-leb p 40 high) refl

pub thermal_head : (k : ℕ) → 1 ≤ k → plant_head (40 + k) ≡ heads.Thermal k
thermal_head k low = let e : 40 + k - 40 ≡ k = omega arith in rw (lt-leb (40 + k) 40 (omega (arith, low)), e) refl

pub existing_is : (d : Says) → IsSound d → (p t : ℕ) → 1 ≤ p → p ≤ 40 → 1 ≤ t → t ≤ years d → 0 < units_in d p t → IsPlant (step d) (plant_of d p (units_in d p t))
existing_is d s p t from to low high some =
    let there = plant_there d s p t from to (omega (arith, high, years_high d s)) some in
    plant_is d s p (units_in d p t) from (omega (arith, to)) (plant_few d s p t from to low high)
    (subst (IsRanged d) (sym (existing_head p to)) (existing_ranged d s p))
    (subst (λ h. is_there d h ≡ true) (sym (existing_head p to)) there)

pub thermal_is : (d : Says) → IsSound d → (k : ℕ) → 1 ≤ k → k ≤ 12 → is_there d (heads.Thermal k) ≡ true → IsPlant (step d) (plant_of d (40 + k) (number d (heads.Thermal k) 0))
thermal_is d s k low high there =
    plant_is d s (40 + k) (number d (heads.Thermal k) 0) (omega arith) (omega (arith, high)) (most_at d s (heads.Thermal k) 0)
    (subst (IsRanged d) (sym (thermal_head k low)) (thermal_ranged d s k))
    (subst (λ h. is_there d h ≡ true) (sym (thermal_head k low)) there)

-- ---- the units and the capacity of a year's system

pub existing_units : (d : Says) (t : ℕ) → system.units (existing_in d t) ≡ sum (map (λ p. units_in d p t) (first 40))
existing_units d t = sum_passed (λ (p : Plant). p.units) (λ p. plant_of d p (units_in d p t)) (λ p. nat_lt 0 p.units) (λ p. units_in d p t) 40 (λ x. refl) (λ x f. omega (arith, ltb-false 0 (units_in d x t) f))

pub existing_mw : (d : Says) (t : ℕ) → full_mw (existing_in d t) ≡ sum (map (λ p. units_in d p t * full d p) (first 40))
existing_mw d t =
    sum_passed (λ (p : Plant). p.units * p.full) (λ p. plant_of d p (units_in d p t)) (λ p. nat_lt 0 p.units) (λ p. units_in d p t * full d p) 40 (λ x. refl)
    (λ x f. let e : units_in d x t ≡ 0 = omega (arith, ltb-false 0 (units_in d x t) f) in rw e (omega arith))

pub thermal_units : (d : Says) → system.units (thermal d) ≡ sum (map (λ k. number d (heads.Thermal k) 0) (first 12))
thermal_units d = sum_kept (λ (p : Plant). p.units) (λ k. plant_of d (40 + k) (number d (heads.Thermal k) 0)) (λ k. is_there d (heads.Thermal k)) (λ k. number d (heads.Thermal k) 0) 12 (λ x low high. refl) (λ x low high f. absent_number d (heads.Thermal x) 0 f)

pub thermal_mw : (d : Says) → full_mw (thermal d) ≡ sum (map (λ k. number d (heads.Thermal k) 0 * full d (40 + k)) (first 12))
thermal_mw d =
    sum_kept (λ (p : Plant). p.units * p.full) (λ k. plant_of d (40 + k) (number d (heads.Thermal k) 0)) (λ k. is_there d (heads.Thermal k)) (λ k. number d (heads.Thermal k) 0 * full d (40 + k)) 12 (λ x low high. refl)
    (λ x low high f. let e : number d (heads.Thermal x) 0 ≡ 0 = absent_number d (heads.Thermal x) 0 f in rw e (omega arith))
