-- A year's system of a deck that meets no row is one.
use Rattle.std.proofs.Common.{◌≡◌, ℕ, ◌+◌, ◌%◌, ◌^◌, ◌<◌, ◌≤◌, ◌⊎◌, true, nat_lt, List, ◌++◌, length, map, All, refl, sym, ap, subst, ◌∙◌, arith, ⊎_elim}
use Rattle.std.proofs.lemmas.Bool.{ltb-false, ltb-true}
use Rattle.std.proofs.lemmas.Bool.Decides.{nat_tests}
use Rattle.std.proofs.lemmas.List.{length-append, length-map, map-append}
use Rattle.std.proofs.lemmas.List.Elements.{All-map}
use Rattle.std.proofs.lemmas.List.FromFn.{length-map-range_with_len}
use Rattle.std.specs.List.Sorted.{IsStrictlyIncreasing}
use Rattle.deck_lines.specs.declared.head.Head.TheVariants as heads
use Rattle.deck_lines.specs.declared.form.Kind.TheVariants as kinds
use Rattle.deck_lines.specs.declared.statement.Statement.{Statement}
use Rattle.deck_lines.specs.Deck.{body_of}
use Rattle.deck_lines.specs.Statements.{allows}
use Rattle.plant_data.specs.declared.plant.Plant.{Plant}
use Rattle.plant_data.specs.declared.plant.Rule.{Rule}
use Rattle.plant_data.specs.declared.shape.Load.{Load}
use Rattle.plant_data.specs.declared.water.Group.{Group}
use Rattle.plant_data.specs.Units.{HasRisingNumbers}
use Rattle.std.proofs.Common.{IfOk, Result, Ok, Err}
use Rattle.year_system.specs.System.{System, IsGroup, IsLoad, IsPlant, IsSystem, full_mw, size, unit_limit}
use Rattle.year_system.specs.System as system
use Rattle.checked_deck.specs.Systems as systems
use Rattle.deck_check.specs.Readings as says
use Rattle.checked_deck.specs.Systems.{group_of, plant_of}
use Rattle.deck_check.specs.Readings.{Says, first, is_there, number, numbers, units_in, load_in}
use Rattle.checked_deck.specs.TypedDeck.{IsTyped}
use Rattle.checked_deck.proofs.GroupFacts.{group_is, weights_few, weights_some, weights_whole}
use Rattle.checked_deck.proofs.Kept.{IsRising, each_from_0, each_kept, each_passed, few_kept, few_passed, map_map, rising_append, rising_kept, rising_passed}
use Rattle.checked_deck.proofs.LoadFacts.{load_is}
use Rattle.checked_deck.proofs.PlantFacts.{existing_is, existing_mw, existing_units, step_high, step_low, strong, thermal_is, thermal_mw, thermal_units, units_few}
use Rattle.checked_deck.proofs.Sound.{IsSound, periods_high, periods_low, periods_there, row_at, sound_is, width_low}

period_kinds : (n : ℕ) → allows kinds.Periods n ≡ true → 12 % n ≡ 0
period_kinds n h = go n (each n h)
  where
    each : (n : ℕ) → allows kinds.Periods n ≡ true → (n ≡ 1) ⊎ ((n ≡ 2) ⊎ ((n ≡ 3) ⊎ ((n ≡ 4) ⊎ ((n ≡ 6) ⊎ (n ≡ 12)))))
    each n h = grind (arith, nat_tests)

    go : (n : ℕ) → (n ≡ 1) ⊎ ((n ≡ 2) ⊎ ((n ≡ 3) ⊎ ((n ≡ 4) ⊎ ((n ≡ 6) ⊎ (n ≡ 12))))) → 12 % n ≡ 0
    go n = ⊎_elim (λ e. rw e refl) (⊎_elim (λ e. rw e refl) (⊎_elim (λ e. rw e refl) (⊎_elim (λ e. rw e refl) (⊎_elim (λ e. rw e refl) (λ e. rw e refl)))))

periods_divide : (d : Says) → IsSound d → 12 % says.periods d ≡ 0
periods_divide d s = period_kinds (says.periods d) (s.kinds heads.Periods 0 (periods_there d s) (omega arith) (omega (arith, (s.filled heads.Periods (periods_there d s)).some)))

-- the greatest counts of the system are those of the deck
pub greatest_is : (d : Says) (t : ℕ) → system.greatest (systems.system d t) ≡ says.greatest d
greatest_is d t =
    ap (λ xs. xs ++ map (λ (g : Group). g.greatest) (systems.groups d)) (map_map (λ k. plant_of d (40 + k) (number d (heads.Thermal k) 0)) (λ (p : Plant). p.units) (says.thermal_numbers d))
    ∙ ap (λ ys. map (λ k. number d (heads.Thermal k) 0) (says.thermal_numbers d) ++ ys) (map_map (group_of d) (λ (g : Group). g.greatest) (says.group_numbers d))

existing_all : (d : Says) → IsSound d → (t : ℕ) → 1 ≤ t → t ≤ says.years d → All (λ p. (1 ≤ p.number) × (p.number ≤ 40) × (1 ≤ p.units) × IsPlant (says.step d) p) (systems.existing_in d t)
existing_all d s t low high =
    each_passed (λ p. (1 ≤ p.number) × (p.number ≤ 40) × (1 ≤ p.units) × IsPlant (says.step d) p) (λ p. plant_of d p (units_in d p t)) (λ p. nat_lt 0 p.units) 40
    (λ p from to some. let units : 0 < units_in d p t = ltb-true 0 (units_in d p t) some in (from, to, units, existing_is d s p t from to low high units))

thermal_all : (d : Says) → IsSound d → All (λ p. (41 ≤ p.number) × (p.number ≤ 52) × IsPlant (says.step d) p) (systems.thermal d)
thermal_all d s =
    All-map (λ p. (41 ≤ p.number) × (p.number ≤ 52) × IsPlant (says.step d) p) (λ k. plant_of d (40 + k) (number d (heads.Thermal k) 0)) (says.thermal_numbers d)
    (each_kept (λ k. (41 ≤ 40 + k) × (40 + k ≤ 52) × IsPlant (says.step d) (plant_of d (40 + k) (number d (heads.Thermal k) 0))) (λ k. is_there d (heads.Thermal k)) 12
    (λ k from to there. (omega (arith, from), omega (arith, to), thermal_is d s k from to there)))

groups_all : (d : Says) → IsSound d → All (IsGroup (says.step d) (says.periods d) (length (says.weights d))) (systems.groups d)
groups_all d s =
    All-map (IsGroup (says.step d) (says.periods d) (length (says.weights d))) (group_of d) (says.group_numbers d)
    (each_kept (λ g. IsGroup (says.step d) (says.periods d) (length (says.weights d)) (group_of d g)) (λ g. is_there d (heads.Hydro g)) 2
    (λ g from to there. group_is d s g from to))

numbers_rise : (d : Says) (t : ℕ) → HasRisingNumbers (systems.existing_in d t) (systems.thermal d)
numbers_rise d t =
    let num : Plant → ℕ = λ p. p.number in
    let existing : IsRising 1 40 (map num (systems.existing_in d t)) = rising_passed 0 num (λ p. plant_of d p (units_in d p t)) (λ p. nat_lt 0 p.units) 40 (λ x. omega arith) in
    let thermal : IsRising 41 52 (map num (systems.thermal d)) =
    subst (IsRising 41 52) (sym (map_map (λ k. plant_of d (40 + k) (number d (heads.Thermal k) 0)) num (says.thermal_numbers d))) (rising_kept 40 (λ k. 40 + k) (λ k. is_there d (heads.Thermal k)) 12 (λ x. refl)) in
    rw (map-append num (systems.existing_in d t) (systems.thermal d)) (rising_append 1 40 52 (map num (systems.existing_in d t)) (map num (systems.thermal d)) existing thermal)

groups_rise : (d : Says) → IsStrictlyIncreasing (map (λ (g : Group). g.number) (systems.groups d))
groups_rise d =
    let r : IsRising 1 2 (map (λ (g : ℕ). g) (says.group_numbers d)) = rising_kept 0 (λ g. g) (λ g. is_there d (heads.Hydro g)) 2 (λ x. omega arith) in
    subst IsStrictlyIncreasing (sym (map_map (group_of d) (λ (g : Group). g.number) (says.group_numbers d))) r.rises

units_of_system : (d : Says) (t : ℕ) → unit_limit (systems.system d t) ≡ says.units d t
units_of_system d t = rw (existing_units d t, thermal_units d) refl

mw_of_system : (d : Says) (t : ℕ) → system.thermal_mw (systems.system d t) ≡ says.capacity d t
mw_of_system d t = rw (existing_mw d t, thermal_mw d) refl

pub width_of_lists : (d : Says) → length (says.greatest d) ≡ length (systems.thermal d) + length (systems.groups d)
width_of_lists d =
    length-append (map (λ k. number d (heads.Thermal k) 0) (says.thermal_numbers d)) (map (λ g. number d (heads.Hydro g) 1) (says.group_numbers d))
    ∙ rw (length-map (says.thermal_numbers d) (λ k. number d (heads.Thermal k) 0), length-map (says.group_numbers d) (λ g. number d (heads.Hydro g) 1), length-map (says.thermal_numbers d) (λ k. plant_of d (40 + k) (number d (heads.Thermal k) 0)), length-map (says.group_numbers d) (group_of d)) refl

system_of_sound : (d : Says) → IsSound d → (t : ℕ) → 1 ≤ t → t ≤ says.years d → IsSystem (systems.system d t)
system_of_sound d s t low high =
    let count : length (says.loads d t) ≡ says.periods d = length-map-range_with_len (load_in d t) 0 (says.periods d) in
    let mw : system.thermal_mw (systems.system d t) ≡ says.capacity d t = mw_of_system d t in
    let power = strong d s t low high in
    record {
      step = (step_low d s, step_high d s);
      periods = rw count (periods_low d s, periods_high d s, periods_divide d s);
      loads = each_from_0 IsLoad (load_in d t) (says.periods d) (λ i lt. load_is d s t i low high lt);
      conditions = (weights_some d s, weights_few d s);
      weights = weights_whole d s;
      existing = (few_passed (λ p. plant_of d p (units_in d p t)) (λ p. nat_lt 0 p.units) 40, existing_all d s t low high);
      thermal = (rw (length-map (says.thermal_numbers d) (λ k. plant_of d (40 + k) (number d (heads.Thermal k) 0))) (few_kept (λ k. is_there d (heads.Thermal k)) 12), thermal_all d s);
      numbers = numbers_rise d t;
      groups = (rw (length-map (says.group_numbers d) (group_of d)) (few_kept (λ g. is_there d (heads.Hydro g)) 2), rw count (groups_all d s));
      group_numbers = groups_rise d;
      candidate = rw (sym (width_of_lists d)) (width_low d s);
      few_units = rw (units_of_system d t) (units_few d s t low high);
      power = rw mw power;
      codes = rw (greatest_is d t) (ltb-false (2 ^ 50) (size (says.greatest d)) (row_at d s 20 (omega arith) 0 0 0));
    }

pub system_is : (deck : List Statement) (t : ℕ) → IsTyped deck → 1 ≤ t → t ≤ says.years (body_of deck) → IsSystem (systems.system (body_of deck) t)
system_is deck t typed low high = system_of_sound (body_of deck) (sound_is deck typed) t low high

-- the system that is made of its parts
pub system_from : (deck : List Statement) (t : ℕ) {r : Rule} {ls : List Load} {ws : List ℕ} {es ths : List Plant} {gs : List Group} {st : ℕ}
    → IsTyped deck → 1 ≤ t → t ≤ says.years (body_of deck) → r ≡ systems.rule (body_of deck) → ls ≡ says.loads (body_of deck) t → ws ≡ says.weights (body_of deck) → es ≡ systems.existing_in (body_of deck) t
    → ths ≡ systems.thermal (body_of deck) → gs ≡ systems.groups (body_of deck) → st ≡ says.step (body_of deck)
    → IsSystem (record { rule = r; loads = ls; weights = ws; existing = es; thermal = ths; groups = gs; step = st })
system_from deck t typed low high r ls ws es ths gs st =
    subst IsSystem (sym (λ i. record { rule = r i; loads = ls i; weights = ws i; existing = es i; thermal = ths i; groups = gs i; step = st i })) (system_is deck t typed low high)

pub system_counts : {E : Type 0} (d : Says) (t : ℕ) (r : Result System E) → IfOk r (λ s. s ≡ systems.system d t) → IfOk r (λ s. system.greatest s ≡ says.greatest d)
system_counts d t (Ok s) e = ap system.greatest e ∙ greatest_is d t
system_counts d t (Err e) h = tt
