-- The cost of a year is below 33 * 10^15, so that those of thirty years are below 10^18.
use Rattle.std.proofs.Common.{◌≡◌, ℕ, zero, suc, ◌+◌, ◌-◌, ◌*◌, ◌/◌, ◌^◌, ◌<◌, ◌≤◌, Bool, true, false, cond, leb, List, [], ◌∷◌, length, get_or, map, min, take, drop, sum_by, All, refl, arith, ⊎_elim}
use Rattle.std.specs.Prelude.{nat_eq}
use Rattle.std.specs.List.{flat_map, zip}
use Rattle.std.proofs.Math.Nat.{div-le_of_le-mul, mul-div-le, mul-le-mul}
use Rattle.std.proofs.lemmas.Bool.{cases_lt, leb-true}
use Rattle.std.proofs.lemmas.List.{get_or_past, length-append, length-drop, length-map, length-take}
use Rattle.std.proofs.lemmas.List.Elements.{All-append, All-cons, All-drop, All-head, All-map, All-nil, All-tail, All-take, All-weaker}
use Rattle.std.proofs.lemmas.List.Sums.{sum_by-le}
use Rattle.std.proofs.lemmas.Slice.Zip.{length-zip}
use Rattle.plant_data.specs.Rows.{IsRow}
use Rattle.plant_data.specs.declared.row.Row.{Row}
use Rattle.wasp_fixed.specs.Discounts.{end_factor, half_year, mid_factor, root_of}
use Rattle.wasp_fixed.specs.declared.numbers.TheConstants.{ONE}
use Rattle.cost_terms.specs.Cost.{added_projects, added_units, build, domestic, escalated, foreign, fuel, fuel_factor, group_steps, groups_fixed, inventory, items, plants_fixed, projects_mw, salvage, shortage_cost, shorts, step_cost, stock, thermal_fixed, thermal_steps, unserved, unserved_cents, upkeep, weighted_cents}
use Rattle.cost_terms.specs.CostData.{Fits, IsEconomy, IsGroupCost, IsPlantCost, IsProjectCost, IsThermalCost}
use Rattle.cost_terms.specs.Totals.{IsItem}
use Rattle.cost_terms.specs.declared.additions.Item.{Item}
use Rattle.cost_terms.specs.declared.prices.CostData.{CostData}
use Rattle.cost_terms.specs.declared.prices.GroupCost.{GroupCost}
use Rattle.cost_terms.specs.declared.prices.PlantCost.{PlantCost}
use Rattle.cost_terms.specs.declared.prices.ProjectCost.{ProjectCost}
use Rattle.cost_terms.specs.declared.prices.ShortagePrice.{ShortagePrice}
use Rattle.cost_terms.specs.declared.prices.ThermalCost.{ThermalCost}
use Rattle.cost_terms.proofs.Amounts.{both_most, priced_most, scaled_most, whole_most}
use Rattle.cost_terms.proofs.FactorBounds.{end_most, escalated_most, fuel_most}
use Rattle.wasp_fixed.proofs.Lists.{all_flat}
use Rattle.report_text.proofs.Layers.{fits_low}

-- ---- lists

zip_all : {X Y : Type 0} (P : X → Type 0) (Q : Y → Type 0) (xs : List X) (ys : List Y) → All P xs → All Q ys → All (λ e. P e.0 × Q e.1) (zip xs ys)
zip_all {X} {Y} P Q [] ys p q = All-nil (λ (e : X × Y). P e.0 × Q e.1)
zip_all {X} {Y} P Q (x ∷ xs) [] p q = All-nil (λ (e : X × Y). P e.0 × Q e.1)
zip_all {X} {Y} P Q (x ∷ xs) (y ∷ ys) p q =
    All-cons (λ (e : X × Y). P e.0 × Q e.1) (x, y) (zip xs ys) (All-head P x xs p, All-head Q y ys q) (zip_all P Q xs ys (All-tail P x xs p) (All-tail Q y ys q))

flat_long : {X Y : Type 0} (g : X → List Y) (xs : List X) → All (λ x. length (g x) ≤ 30) xs → length (flat_map g xs) ≤ 30 * length xs
flat_long g [] h = omega arith
flat_long {X} g (x ∷ xs) h =
    omega (arith, length-append (g x) (flat_map g xs), All-head (λ (z : X). length (g z) ≤ 30) x xs h, flat_long g xs (All-tail (λ (z : X). length (g z) ≤ 30) x xs h))

all_numbers : (ns : List ℕ) → All (λ n. Unit {0}) ns
all_numbers ns k d b = tt

-- ---- what is added

abbrev IsAdded : ℕ → List Item → Type 0
IsAdded most is = All IsItem is × (length is ≤ most)

thermal_item : (p : ThermalCost) (before after : ℕ) → IsThermalCost p → after ≤ 128 → IsItem (added_units p (after - before))
thermal_item p before after v h = record {
  mw = mul-le-mul {n₁ = after - before} {m₁ = p.full} {n₂ = 128} {m₂ = 20000} (omega (arith, h)) v.full.1;
  capdom = v.capdom;
  capfor = v.capfor;
  stock = v.stock;
  life = v.life;
}

thermal_added : (c : CostData) (before after : List ℕ) → IsEconomy c → All (λ n. n ≤ 128) after → IsAdded 12 (map (λ s. added_units s.0 (s.1.1 - s.1.0)) (thermal_steps c before after))
thermal_added c before after v h =
    let steps = thermal_steps c before after in
    let f : ThermalCost × (ℕ × ℕ) → Item = λ s. added_units s.0 (s.1.1 - s.1.0) in
    let pairs = zip_all (λ (n : ℕ). Unit {0}) (λ (n : ℕ). n ≤ 128) before after (all_numbers before) h in
    let all = zip_all IsThermalCost (λ (e : ℕ × ℕ). Unit {0} × (e.1 ≤ 128)) c.thermal (zip before after) v.thermal.1 pairs in (
      All-map IsItem f steps (All-weaker (λ (s : ThermalCost × (ℕ × ℕ)). IsThermalCost s.0 × (Unit {0} × (s.1.1 ≤ 128))) (λ (s : ThermalCost × (ℕ × ℕ)). IsItem (f s)) (λ s p. thermal_item s.0 s.1.0 s.1.1 p.0 p.1.1) steps all),
      omega (arith, length-map steps f, length-zip c.thermal (zip before after), v.thermal.0),
    )

project_item : (p : ProjectCost) → IsProjectCost p → IsItem (record { mw = p.capacity; capdom = p.capdom; capfor = p.capfor; stock = 0; life = p.life })
project_item p v = record { mw = omega (arith, v.capacity); capdom = v.capdom; capfor = v.capfor; stock = omega arith; life = v.life }

group_added : (g : GroupCost) (from to : ℕ) → IsGroupCost g → IsAdded 30 (added_projects g from to)
group_added g from to v =
    let f : ProjectCost → Item = λ p. record { mw = p.capacity; capdom = p.capdom; capfor = p.capfor; stock = 0; life = p.life } in
    let rest = drop (g.existing + from) g.projects in (
      All-map IsItem f (take (to - from) rest) (All-weaker IsProjectCost (λ (p : ProjectCost). IsItem (f p)) (λ p h. project_item p h) (take (to - from) rest) (All-take IsProjectCost (to - from) rest (All-drop IsProjectCost (g.existing + from) g.projects v.ranges))),
      omega (arith, length-map (take (to - from) rest) f, length-take (to - from) rest, length-drop (g.existing + from) g.projects, v.projects, v.existing, v.greatest),
    )

groups_added : (c : CostData) (before after : List ℕ) → IsEconomy c → IsAdded 60 (flat_map (λ s. added_projects s.0 s.1.0 s.1.1) (group_steps c before after))
groups_added c before after v =
    let steps = group_steps c before after in
    let g : GroupCost × (ℕ × ℕ) → List Item = λ s. added_projects s.0 s.1.0 s.1.1 in
    let others = zip (drop (length c.thermal) before) (drop (length c.thermal) after) in
    let all = zip_all IsGroupCost (λ (e : ℕ × ℕ). Unit {0}) c.groups others v.groups.1 (λ k d b. tt) in (
      all_flat IsItem g steps (All-weaker (λ (s : GroupCost × (ℕ × ℕ)). IsGroupCost s.0 × Unit {0}) (λ (s : GroupCost × (ℕ × ℕ)). All IsItem (g s)) (λ s p. (group_added s.0 s.1.0 s.1.1 p.0).0) steps all),
      omega (arith, flat_long g steps (All-weaker (λ (s : GroupCost × (ℕ × ℕ)). IsGroupCost s.0 × Unit {0}) (λ (s : GroupCost × (ℕ × ℕ)). length (g s) ≤ 30) (λ s p. (group_added s.0 s.1.0 s.1.1 p.0).1) steps all), length-zip c.groups others, v.groups.0),
    )

all_added : (c : CostData) (before after : List ℕ) → IsEconomy c → All (λ n. n ≤ 128) after → IsAdded 72 (items c before after)
all_added c before after v h =
    let a = thermal_added c before after v h in
    let b = groups_added c before after v in
    let xs = map (λ s. added_units s.0 (s.1.1 - s.1.0)) (thermal_steps c before after) in
    let ys = flat_map (λ s. added_projects s.0 s.1.0 s.1.1) (group_steps c before after) in
    (All-append IsItem xs ys a.0 b.0, omega (arith, length-append xs ys, a.1, b.1))

sum_added : (f : Item → ℕ) (most : ℕ) (is : List Item) → IsAdded 72 is → ((i : Item) → IsItem i → f i ≤ most) → sum_by f is ≤ 72 * most
sum_added f most is a h =
    let s = sum_by-le f most is (All-weaker IsItem (λ (i : Item). f i ≤ most) h is a.0) in
    let m : length is * most ≤ 72 * most = mul-le-mul {n₁ = length is} {m₁ = most} {n₂ = 72} {m₂ = most} a.1 (omega arith) in
    omega (arith, s, m)

build_small : (c : CostData) (year : ℕ) (before after : List ℕ) → IsAdded 72 (items c before after) → build c year before after ≤ 18432000000000000
build_small c year before after a =
    let d = sum_added domestic 128000000000000 (items c before after) a (λ i v. whole_most i.mw i.capdom 50000 v.mw v.capdom) in
    let f = sum_added foreign 128000000000000 (items c before after) a (λ i v. whole_most i.mw i.capfor 50000 v.mw v.capfor) in
    div-le_of_le-mul ONE (omega (arith, both_most (sum_by domestic (items c before after)) (end_factor c.rates.domestic (year - 1)) (sum_by foreign (items c before after)) (end_factor c.rates.foreign (year - 1)) 9216000000000000 ONE d f (end_most c.rates.domestic (year - 1)) (end_most c.rates.foreign (year - 1))))

stock_small : (c : CostData) (year : ℕ) (before after : List ℕ) → IsAdded 72 (items c before after) → stock c year before after ≤ 1843200000000000
stock_small c year before after a =
    let s = sum_added inventory 25600000000000 (items c before after) a (λ i v. whole_most i.mw i.stock 10000 v.mw v.stock) in
    let w : end_factor c.rates.domestic (year - 1) - end_factor c.rates.domestic c.years ≤ ONE = omega (arith, end_most c.rates.domestic (year - 1)) in
    let m : sum_by inventory (items c before after) * (end_factor c.rates.domestic (year - 1) - end_factor c.rates.domestic c.years) ≤ 1843200000000000 * ONE = mul-le-mul s w in
    div-le_of_le-mul ONE (omega (arith, m))

-- ---- factors

square_within : (digits n : ℕ) → root_of digits n * root_of digits n ≤ n
unfolding root_of
square_within zero n = omega arith
square_within (suc digits) n = digit (root_of digits (n / 4)) _ refl (square_within digits (n / 4))
  where
    digit : (r : ℕ) (b : Bool) → leb ((2 * r + 1) * (2 * r + 1)) n ≡ b → r * r ≤ n / 4 → cond b (2 * r + 1) (2 * r) * cond b (2 * r + 1) (2 * r) ≤ n
    digit r true e h = leb-true _ n e
    digit r false e h = omega (arith, h, mul-div-le n 4)

half_most : (rate : ℕ) → half_year rate ≤ ONE
unfolding half_year
half_most rate =
    let r = root_of 30 (end_factor rate 1 * ONE) in
    ⊎_elim
    (λ above.
    let s : (ONE + 1) * (ONE + 1) ≤ r * r = mul-le-mul {n₁ = ONE + 1} {m₁ = ONE + 1} {n₂ = r} {m₂ = r} (omega (arith, above)) (omega (arith, above)) in
    absurd (omega (arith, s, square_within 30 (end_factor rate 1 * ONE), end_most rate 1)))
    (λ within. within)
    (cases_lt ONE r)

mid_most : (rate years : ℕ) → mid_factor rate years ≤ ONE
mid_most rate years =
    let m : end_factor rate years * half_year rate ≤ ONE * ONE = mul-le-mul (end_most rate years) (half_most rate) in
    div-le_of_le-mul ONE (omega (arith, m))

fuel_factor_most : (rate escalation years : ℕ) → escalation ≤ 1000 → years ≤ 30 → fuel_factor rate escalation years ≤ 18 * ONE
fuel_factor_most rate escalation years h few = omega (arith, fuel_most (mid_factor rate years) (escalated escalation years) (mid_most rate years), escalated_most escalation years h few)

-- ---- running

fuel_small : (c : CostData) (year : ℕ) (row : Row) → IsEconomy c → year ≤ 30 → IsRow row → fuel c year row ≤ 3320413933267720
fuel_small c year row v few r =
    let m = both_most row.fuel_domestic (fuel_factor c.rates.domestic c.escalation.domestic (year - 1)) row.fuel_foreign (fuel_factor c.rates.foreign c.escalation.foreign (year - 1)) (2 ^ 63) (18 * ONE)
    (omega (arith, r.fuel_domestic)) (omega (arith, r.fuel_foreign)) (fuel_factor_most c.rates.domestic c.escalation.domestic (year - 1) v.escalation.0 (omega (arith, few))) (fuel_factor_most c.rates.foreign c.escalation.foreign (year - 1) v.escalation.1 (omega (arith, few))) in
    div-le_of_le-mul (100000 * ONE) (omega (arith, m))

unit_low : (ns : List ℕ) (k : ℕ) → All (λ n. n ≤ 128) ns → get_or ns k 0 ≤ 128
unit_low ns k h = ⊎_elim (λ within. h k 0 within) (λ past. omega (arith, get_or_past ns k 0 past)) (cases_lt k (length ns))

fixed_most : (units full fixed : ℕ) → units ≤ 128 → full ≤ 20000 → fixed ≤ 10000 → units * full * fixed ≤ 25600000000
fixed_most units full fixed u f x =
    let m : units * full ≤ 128 * 20000 = mul-le-mul u f in
    mul-le-mul {n₁ = units * full} {m₁ = fixed} {n₂ = 2560000} {m₂ = 10000} (omega (arith, m)) x

plants_small : (c : CostData) (year : ℕ) → IsEconomy c → plants_fixed c year ≤ 1024000000000
plants_small c year v =
    let f : PlantCost → ℕ = λ p. get_or p.units (year - 1) 0 * p.full * p.fixed in
    let s = sum_by-le f 25600000000 c.plants (All-weaker (IsPlantCost c.years) (λ (p : PlantCost). f p ≤ 25600000000) (λ p h. fixed_most (get_or p.units (year - 1) 0) p.full p.fixed (unit_low p.units (year - 1) h.units) h.full.1 h.fixed) c.plants v.plants.1) in
    omega (arith, s, v.plants.0)

thermal_small : (c : CostData) (counts : List ℕ) → IsEconomy c → All (λ n. n ≤ 128) counts → thermal_fixed c counts ≤ 307200000000
thermal_small c counts v h =
    let f : ThermalCost × ℕ → ℕ = λ e. e.1 * e.0.full * e.0.fixed in
    let steps = zip c.thermal counts in
    let all = zip_all IsThermalCost (λ (n : ℕ). n ≤ 128) c.thermal counts v.thermal.1 h in
    let s = sum_by-le f 25600000000 steps (All-weaker (λ (e : ThermalCost × ℕ). IsThermalCost e.0 × (e.1 ≤ 128)) (λ (e : ThermalCost × ℕ). f e ≤ 25600000000) (λ e p. fixed_most e.1 e.0.full e.0.fixed p.1 p.0.full.1 p.0.fixed) steps all) in
    omega (arith, s, length-zip c.thermal counts, v.thermal.0)

projects_small : (g : GroupCost) (count : ℕ) → IsGroupCost g → projects_mw g count ≤ 600000
projects_small g count v =
    let f : ProjectCost → ℕ = λ p. p.capacity in
    let ps = take (g.existing + count) g.projects in
    let s = sum_by-le f 20000 ps (All-weaker IsProjectCost (λ (p : ProjectCost). f p ≤ 20000) (λ p h. h.capacity) ps (All-take IsProjectCost (g.existing + count) g.projects v.ranges)) in
    omega (arith, s, length-take (g.existing + count) g.projects, v.projects, v.existing, v.greatest)

groups_small : (c : CostData) (counts : List ℕ) → IsEconomy c → groups_fixed c counts ≤ 12000000000
groups_small c counts v =
    let f : GroupCost × ℕ → ℕ = λ e. projects_mw e.0 e.1 * e.0.fixed in
    let own = drop (length c.thermal) counts in
    let steps = zip c.groups own in
    let all = zip_all IsGroupCost (λ (n : ℕ). Unit {0}) c.groups own v.groups.1 (all_numbers own) in
    let one : (e : GroupCost × ℕ) → IsGroupCost e.0 × Unit {0} → f e ≤ 6000000000 = λ e p. mul-le-mul {n₁ = projects_mw e.0 e.1} {m₁ = e.0.fixed} {n₂ = 600000} {m₂ = 10000} (projects_small e.0 e.1 p.0) p.0.fixed in
    let s = sum_by-le f 6000000000 steps (All-weaker (λ (e : GroupCost × ℕ). IsGroupCost e.0 × Unit {0}) (λ (e : GroupCost × ℕ). f e ≤ 6000000000) one steps all) in
    omega (arith, s, length-zip c.groups own, v.groups.0)

-- in the middle of the year, and in dollars
paid_most : (cents most factor : ℕ) → cents ≤ 100 * most → factor ≤ ONE → cents * factor / (100 * ONE) ≤ most
paid_most cents most factor h w =
    let m : cents * factor ≤ 100 * most * ONE = mul-le-mul h w in
    div-le_of_le-mul (100 * ONE) (omega (arith, m))

upkeep_small : (c : CostData) (year : ℕ) (counts : List ℕ) (row : Row) → IsEconomy c → All (λ n. n ≤ 128) counts → IsRow row → upkeep c year counts row ≤ 170000000000000
upkeep_small c year counts row v h r =
    paid_most (12000 * (plants_fixed c year + thermal_fixed c counts + groups_fixed c counts) + row.variable) 170000000000000 (mid_factor c.rates.domestic (year - 1))
    (omega (arith, plants_small c year v, thermal_small c counts v h, groups_small c counts v, r.variable)) (mid_most c.rates.domestic (year - 1))

shortage_small : (s : ShortagePrice) (demand short : ℕ) → s.plain ≤ 10000000 → s.linear ≤ 10000000 → s.square ≤ 10000000 → shortage_cost s demand short ≤ 30000000 * short
shortage_small s demand short a b c = priced (nat_eq demand 0)
  where
    plain_most : short * s.plain ≤ 30000000 * short
    plain_most = let m : short * s.plain ≤ short * 10000000 = mul-le-mul {n₁ = short} {m₁ = s.plain} {n₂ = short} {m₂ = 10000000} (omega arith) a in omega (arith, m)

    priced : (none : Bool) → cond none (short * s.plain) (short * (s.plain * (demand * demand) + s.linear * (demand * min short demand) + s.square * (min short demand * min short demand)) / (demand * demand)) ≤ 30000000 * short
    priced true = plain_most
    priced false = priced_most short _ (demand * demand) (scaled_most s.plain s.linear s.square demand (min short demand) a b c (omega arith))

shorts_low : (row : Row) → IsRow row → All (λ n. n < 2 ^ 32) (shorts row)
shorts_low row r =
    let low : ℕ → Type 0 = λ n. n < 2 ^ 32 in
    All-cons low row.short1 (row.short2 ∷ row.short3 ∷ row.short4 ∷ row.short5 ∷ []) r.short1
    (All-cons low row.short2 (row.short3 ∷ row.short4 ∷ row.short5 ∷ []) r.short2
    (All-cons low row.short3 (row.short4 ∷ row.short5 ∷ []) r.short3 (All-cons low row.short4 (row.short5 ∷ []) r.short4 (All-cons low row.short5 [] r.short5 (All-nil low)))))

weighted_small : (c : CostData) (demand : ℕ) (row : Row) → IsEconomy c → IsRow row → weighted_cents c demand (shorts row) ≤ 644245094400000000
weighted_small c demand row v r =
    let f : ℕ × ℕ → ℕ = λ e. e.0 * shortage_cost c.shortage demand e.1 in
    let steps = zip c.weights (shorts row) in
    let all = zip_all (λ (w : ℕ). w ≤ 10000) (λ (n : ℕ). n < 2 ^ 32) c.weights (shorts row) v.weights (shorts_low row r) in
    let one : (e : ℕ × ℕ) → (e.0 ≤ 10000) × (e.1 < 2 ^ 32) → f e ≤ 1288490188800000000000 =
    λ e p. mul-le-mul {n₁ = e.0} {m₁ = shortage_cost c.shortage demand e.1} {n₂ = 10000} {m₂ = 128849018880000000} p.0 (omega (arith, p.1, shortage_small c.shortage demand e.1 v.shortage.0 v.shortage.1 v.shortage.2)) in
    let s = sum_by-le f 1288490188800000000000 steps (All-weaker (λ (e : ℕ × ℕ). (e.0 ≤ 10000) × (e.1 < 2 ^ 32)) (λ (e : ℕ × ℕ). f e ≤ 1288490188800000000000) one steps all) in
    div-le_of_le-mul 10000 (omega (arith, s, length-zip c.weights (shorts row), v.conditions.1))

unserved_small : (c : CostData) (year : ℕ) (row : Row) → IsEconomy c → IsRow row → unserved c year row ≤ 6442450944000000
unserved_small c year row v r = paid_most (unserved_cents c year row) 6442450944000000 (mid_factor c.rates.domestic (year - 1)) (priced (nat_eq c.version 1)) (mid_most c.rates.domestic (year - 1))
  where
    plain_most : row.unserved * c.shortage.plain ≤ 644245094400000000
    plain_most = let m : row.unserved * c.shortage.plain ≤ 4294967296 * 10000000 = mul-le-mul {n₂ = 4294967296} (omega (arith, r.unserved)) v.shortage.0 in omega (arith, m)

    priced : (first : Bool) → cond first (row.unserved * c.shortage.plain) (weighted_cents c (get_or c.demand (year - 1) 0) (shorts row)) ≤ 644245094400000000
    priced true = plain_most
    priced false = weighted_small c (get_or c.demand (year - 1) 0) row v r

-- ---- a year

sum_of_terms : (b s k f u n : ℕ) → b ≤ 18432000000000000 → k ≤ 1843200000000000 → f ≤ 3320413933267720 → u ≤ 170000000000000 → n ≤ 6442450944000000 → b - s + k + f + u + n ≤ 33000000000000000
sum_of_terms b s k f u n hb hk hf hu hn = omega (arith, hb, hk, hf, hu, hn)

pub step_small : (c : CostData) (year : ℕ) (before after : List ℕ) (row : Row) → IsEconomy c → year ≤ 30 → Fits c after → IsRow row → step_cost c year before after row ≤ 33000000000000000
step_small c year before after row v few f r =
    let low = fits_low c after v f in
    let a = all_added c before after v low in
    sum_of_terms (build c year before after) (salvage c year before after) (stock c year before after) (fuel c year row) (upkeep c year after row) (unserved c year row)
    (build_small c year before after a) (stock_small c year before after a) (fuel_small c year row v few r) (upkeep_small c year after row v low r) (unserved_small c year row v r)
