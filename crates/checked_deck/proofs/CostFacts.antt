-- The costs of a deck that meets no row are those of an economy, where its demands are small.
use Rattle.std.proofs.Common.{◌≡◌, ℕ, ◌+◌, ◌-◌, ◌^◌, ◌<◌, ◌≤◌, Bool, true, false, List, ◌++◌, length, map, slice_index, All, refl, sym, ap, subst, ◌∙◌, arith, ⊎_elim}
use Rattle.std.specs.Prelude.{sum, sum_by}
use Rattle.std.proofs.lemmas.Bool.{cases_Bool, cases_lt, not-false}
use Rattle.std.proofs.lemmas.List.{length-append, length-map}
use Rattle.std.proofs.lemmas.List.Elements.{All-map}
use Rattle.std.proofs.Common.{IfOk, Result, Ok, Err}
use Rattle.cost_terms.specs.CostData as costs
use Rattle.cost_terms.specs.CostData.{IsEconomy, IsGroupCost, IsPlantCost, IsProjectCost, IsThermalCost, unit_limit}
use Rattle.cost_terms.specs.declared.prices.CostData.{CostData}
use Rattle.cost_terms.specs.declared.prices.GroupCost.{GroupCost}
use Rattle.cost_terms.specs.declared.prices.PlantCost.{PlantCost}
use Rattle.cost_terms.specs.declared.prices.ThermalCost.{ThermalCost}
use Rattle.deck_lines.specs.Deck.{body_of}
use Rattle.deck_lines.specs.declared.head.Head.TheVariants as heads
use Rattle.deck_lines.specs.declared.statement.Statement.{Statement}
use Rattle.checked_deck.specs.Economy as spec
use Rattle.deck_check.specs.FaultTable.{upto}
use Rattle.deck_check.specs.Readings as says
use Rattle.deck_check.specs.Readings.{Says, first, group_numbers, is_absent, is_there, number, number_or, projects, thermal_numbers, units_in, years}
use Rattle.checked_deck.specs.TypedDeck.{IsTyped}
use Rattle.deck_check.proofs.Firsts.{map_first_at}
use Rattle.checked_deck.proofs.GroupFacts.{weights_few, weights_small, weights_some}
use Rattle.checked_deck.proofs.Kept.{each_first, each_kept, few_kept, map_map, sum_kept}
use Rattle.checked_deck.proofs.PlantFacts.{existing_head, existing_ranged, plant_few, plant_there, thermal_ranged, units_few}
use Rattle.deck_check.proofs.Firsts.{length-first}
use Rattle.checked_deck.proofs.Sound.{IsSound, absent_number, in_upto, low_at, most_at, row_at, sound_is, unmet_two, width_low, years_high, years_low}

-- the greatest counts of the economy are those of the deck
pub counts_are : (d : Says) → costs.greatest (spec.costs d) ≡ says.greatest d
counts_are d =
    ap (λ xs. xs ++ map (λ (g : GroupCost). g.greatest) (map (spec.group_cost d) (group_numbers d))) (map_map (spec.thermal_cost d) (λ (p : ThermalCost). p.greatest) (thermal_numbers d))
    ∙ ap (λ ys. map (λ k. number d (heads.Thermal k) 0) (thermal_numbers d) ++ ys) (map_map (spec.group_cost d) (λ (g : GroupCost). g.greatest) (group_numbers d))

version_is : (d : Says) → IsSound d → (1 ≤ says.version d) × (says.version d ≤ 2)
version_is d s =
    ⊎_elim
    (λ t. rw t (low_at d s heads.Version 0 t (omega arith), most_at d s heads.Version 0))
    (λ f. rw f (omega arith, omega arith))
    (cases_Bool (is_there d heads.Version))

plant_cost_is : (d : Says) → IsSound d → (p : ℕ) → 1 ≤ p → p ≤ 40 → is_there d (heads.Plant p) ≡ true → IsPlantCost (years d) (spec.plant_cost d p)
plant_cost_is d s p low high there =
    let r = existing_ranged d s p in
    let e : says.full d p ≡ number d (heads.Plant p) 2 = ap (λ h. number d h 2) (existing_head p high) in
    record {
      full = (rw e (r.whole there), rw e r.full);
      fixed = r.fixed;
      each_year = length-map (first (years d)) (units_in d p) ∙ length-first (years d);
      units = All-map (λ n. n ≤ 128) (units_in d p) (first (years d)) (each_first (λ t. units_in d p t ≤ 128) (years d) (λ t from to. plant_few d s p t low high from to));
    }

thermal_cost_is : (d : Says) → IsSound d → (k : ℕ) → is_there d (heads.Thermal k) ≡ true → IsThermalCost (spec.thermal_cost d k)
thermal_cost_is d s k there =
    let r = thermal_ranged d s k in
    record {
      greatest = most_at d s (heads.Thermal k) 0;
      full = (r.whole there, r.full);
      fixed = r.fixed;
      capdom = most_at d s (heads.Thermal k) 10;
      capfor = most_at d s (heads.Thermal k) 11;
      stock = most_at d s (heads.Thermal k) 12;
      life = (low_at d s (heads.Thermal k) 13 there (omega arith), most_at d s (heads.Thermal k) 13);
    }

project_there : (d : Says) → IsSound d → (g j : ℕ) → 1 ≤ g → g ≤ 2 → 1 ≤ j → j ≤ projects d g → is_there d (heads.Project g j) ≡ true
project_there d s g j g1 g2 j1 j2 =
    not-false (is_there d (heads.Project g j)) (unmet_two 16 (upto 2) (λ x. upto (projects d x)) (λ x y. is_absent d (heads.Project x y)) (row_at d s 15 (omega arith)) g j (in_upto 2 g g1 g2) (in_upto (projects d g) j j1 j2))

project_cost_is : (d : Says) → IsSound d → (g j : ℕ) → 1 ≤ g → g ≤ 2 → 1 ≤ j → j ≤ projects d g → IsProjectCost (spec.project_cost d g j)
project_cost_is d s g j g1 g2 j1 j2 = record {
  capacity = most_at d s (heads.Project g j) 0;
  capdom = most_at d s (heads.Project g j) 1;
  capfor = most_at d s (heads.Project g j) 2;
  life = (low_at d s (heads.Project g j) 3 (project_there d s g j g1 g2 j1 j2) (omega arith), most_at d s (heads.Project g j) 3);
}

group_cost_is : (d : Says) → IsSound d → (g : ℕ) → 1 ≤ g → g ≤ 2 → IsGroupCost (spec.group_cost d g)
group_cost_is d s g low high = record {
  existing = most_at d s (heads.Hydro g) 0;
  greatest = most_at d s (heads.Hydro g) 1;
  fixed = most_at d s (heads.Hydro g) 2;
  projects = length-map (first (projects d g)) (spec.project_cost d g) ∙ length-first (projects d g);
  ranges = All-map IsProjectCost (spec.project_cost d g) (first (projects d g)) (each_first (λ j. IsProjectCost (spec.project_cost d g j)) (projects d g) (λ j from to. project_cost_is d s g j low high from to));
}

-- the units of the plants of a year
plants_of_year : (d : Says) → IsSound d → (t : ℕ) → 1 ≤ t → t ≤ years d → sum_by (λ (p : PlantCost). slice_index p.units (t - 1)) (map (spec.plant_cost d) (spec.plant_numbers d)) ≡ sum (map (λ p. units_in d p t) (first 40))
plants_of_year d s t low high =
    let back : t - 1 + 1 ≡ t = omega (arith, low) in
    sum_kept (λ (p : PlantCost). slice_index p.units (t - 1)) (spec.plant_cost d) (λ p. is_there d (heads.Plant p)) (λ p. units_in d p t) 40
    (λ p from to. map_first_at (units_in d p) (years d) (t - 1) 0 (omega (arith, low, high)) ∙ ap (units_in d p) back)
    (λ p from to absent. ⊎_elim (λ some. absurd (differ (is_there d (heads.Plant p)) absent (plant_there d s p t from to (omega (arith, high, years_high d s)) some))) (λ none. omega (arith, none)) (cases_lt 0 (units_in d p t)))
  where
    differ : (b : Bool) → b ≡ false → b ≡ true → ⊥
    differ b f t = cc

limit_is : (d : Says) → IsSound d → (t : ℕ) → 1 ≤ t → t ≤ years d → unit_limit (spec.costs d) t ≤ 128
limit_is d s t low high =
    let thermal : sum_by (λ (p : ThermalCost). p.greatest) (map (spec.thermal_cost d) (thermal_numbers d)) ≡ sum (map (λ k. number d (heads.Thermal k) 0) (first 12)) =
    sum_kept (λ (p : ThermalCost). p.greatest) (spec.thermal_cost d) (λ k. is_there d (heads.Thermal k)) (λ k. number d (heads.Thermal k) 0) 12 (λ x from to. refl) (λ x from to f. absent_number d (heads.Thermal x) 0 f) in
    rw (plants_of_year d s t low high, thermal) (units_few d s t low high)

width_is : (d : Says) → length (says.greatest d) ≡ length (map (spec.thermal_cost d) (thermal_numbers d)) + length (map (spec.group_cost d) (group_numbers d))
width_is d =
    length-append (map (λ k. number d (heads.Thermal k) 0) (thermal_numbers d)) (map (λ g. number d (heads.Hydro g) 1) (group_numbers d))
    ∙ rw (length-map (thermal_numbers d) (λ k. number d (heads.Thermal k) 0), length-map (group_numbers d) (λ g. number d (heads.Hydro g) 1), length-map (thermal_numbers d) (spec.thermal_cost d), length-map (group_numbers d) (spec.group_cost d)) refl

economy_of_sound : (d : Says) → IsSound d → All (λ e. e < 2 ^ 32) (map (spec.demand d) (first (years d))) → IsEconomy (spec.costs d)
economy_of_sound d s small = record {
  years = (years_low d s, years_high d s);
  version = version_is d s;
  rates = (most_at d s heads.Rate 0, most_at d s heads.Rate 1);
  escalation = (most_at d s heads.Escalate 0, most_at d s heads.Escalate 1);
  shortage = (most_at d s heads.Ens 0, most_at d s heads.EnsMore 0, most_at d s heads.EnsMore 1);
  conditions = (weights_some d s, weights_few d s);
  weights = weights_small d s;
  demand_years = length-map (first (years d)) (spec.demand d) ∙ length-first (years d);
  demand = small;
  plants = (
    rw (length-map (spec.plant_numbers d) (spec.plant_cost d)) (few_kept (λ p. is_there d (heads.Plant p)) 40),
    All-map (IsPlantCost (years d)) (spec.plant_cost d) (spec.plant_numbers d) (each_kept (λ p. IsPlantCost (years d) (spec.plant_cost d p)) (λ p. is_there d (heads.Plant p)) 40 (λ p from to there. plant_cost_is d s p from to there)),
  );
  thermal = (
    rw (length-map (thermal_numbers d) (spec.thermal_cost d)) (few_kept (λ k. is_there d (heads.Thermal k)) 12),
    All-map IsThermalCost (spec.thermal_cost d) (thermal_numbers d) (each_kept (λ k. IsThermalCost (spec.thermal_cost d k)) (λ k. is_there d (heads.Thermal k)) 12 (λ k from to there. thermal_cost_is d s k there)),
  );
  groups = (
    rw (length-map (group_numbers d) (spec.group_cost d)) (few_kept (λ g. is_there d (heads.Hydro g)) 2),
    All-map IsGroupCost (spec.group_cost d) (group_numbers d) (each_kept (λ g. IsGroupCost (spec.group_cost d g)) (λ g. is_there d (heads.Hydro g)) 2 (λ g from to there. group_cost_is d s g from to)),
  );
  candidate = rw (sym (width_is d)) (width_low d s);
  few_units = λ t low high. limit_is d s t low high;
}

pub economy_is : (deck : List Statement) (c : CostData) → IsTyped deck → c ≡ spec.costs (body_of deck) → All (λ e. e < 2 ^ 32) c.demand → IsEconomy c
economy_is deck c typed e small =
    let d = body_of deck in
    subst IsEconomy (sym e) (economy_of_sound d (sound_is deck typed) (subst (λ (x : CostData). All (λ m. m < 2 ^ 32) x.demand) e small))

pub economy_counts : {E : Type 0} (d : Says) (r : Result CostData E) → IfOk r (λ c. c ≡ spec.costs d) → IfOk r (λ c. costs.greatest c ≡ says.greatest d)
economy_counts d (Ok c) e = ap costs.greatest e ∙ counts_are d
economy_counts d (Err e) h = tt
