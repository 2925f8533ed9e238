-- Steps of the loops over the tables of a year.
use Rattle.std.proofs.Common.{◌≡◌, ℕ, ◌+◌, ◌-◌, ◌*◌, ◌/◌, ◌<◌, ◌≤◌, List, [], ◌∷◌, length, map, take, get_or, ap, ◌∙◌, sym, subst, arith, sum_by}
use Rattle.std.specs.List.{flat_map}
use Rattle.std.proofs.Math.ListN.{get_or-append}
use Rattle.std.proofs.Math.Nat.{div-le_of_le-mul, mul-le-mul}
use Rattle.std.proofs.lemmas.List.{get_or-append-add, get_or-map, get_or-replicate, length-map, length-replicate}
use Rattle.std.proofs.lemmas.List.Sums.{sum_by-append}
use Rattle.wasp_fixed.specs.declared.numbers.TheConstants.{ONE}
use Rattle.cost_terms.specs.Cost.{added_units, added_projects, build, domestic, foreign, group_steps, horizon, inventory, item_salvage, items, nothing_built, salvage, thermal_steps}
use Rattle.cost_terms.specs.CostData.{Fits, IsThermalCost, greatest}
use Rattle.cost_terms.specs.Totals.{Adds, IsHorizon, IsItem, IsSum, IsWithin, nothing}
use Rattle.cost_terms.specs.declared.additions.Horizon.{Horizon}
use Rattle.cost_terms.specs.declared.additions.Item.{Item}
use Rattle.cost_terms.specs.declared.additions.Totals.{Totals}
use Rattle.cost_terms.specs.declared.prices.CostData.{CostData}
use Rattle.cost_terms.specs.declared.prices.GroupCost.{GroupCost}
use Rattle.cost_terms.specs.declared.prices.ThermalCost.{ThermalCost}
use Rattle.cost_terms.specs.StepTable.{AreUnitRows, IsStanding, IsStepTable, net_build, projects_salvage, units_salvage_of}
use Rattle.cost_terms.specs.declared.tables.Standing.{Standing}
use Rattle.cost_terms.specs.declared.tables.StepTable.{StepTable}
use Rattle.wasp_fixed.specs.Discounts.{end_factor}
use Rattle.plant_data.specs.Configs.{IsAtMost}
use Rattle.cost_terms.proofs.Additivity.{projects_even}
use Rattle.cost_terms.proofs.Amounts.{both_most, worth_most}
use Rattle.cost_terms.proofs.Detours.{AreGrowing, domestic_per_unit, foreign_per_unit, groups_sum, inventory_per_unit, sum_of, sums_even}
use Rattle.cost_terms.proofs.FactorBounds.{end_later, end_most}
use Rattle.cost_terms.proofs.Salvage.{item_le, within_build}
use Rattle.cost_terms.proofs.Steps.{adds_more, counted, no_thermal, thermal_more, width_is}

-- the counts of a configuration that fits are at most the candidates' greatest
pub unit_count : (c : CostData) (counts : List ℕ) (k : ℕ) (d : ThermalCost) → Fits c counts → k < length c.thermal → get_or counts k 0 ≤ (get_or c.thermal k d).greatest
unit_count c counts k d f h =
    let ts = map (λ (p : ThermalCost). p.greatest) c.thermal in
    let gs = map (λ (g : GroupCost). g.greatest) c.groups in
    let n : length ts ≡ length c.thermal = length-map c.thermal (λ (p : ThermalCost). p.greatest) in
    let at : get_or (greatest c) k 0 ≡ (get_or c.thermal k d).greatest = get_or-append ts gs 0 k (omega (arith, h, n)) ∙ get_or-map (λ (p : ThermalCost). p.greatest) c.thermal k d 0 h in
    omega (arith, at, f.most k (omega (arith, h, counted c counts f)))

pub project_count : (c : CostData) (counts : List ℕ) (k : ℕ) (d : GroupCost) → Fits c counts → k < length c.groups → get_or counts (length c.thermal + k) 0 ≤ (get_or c.groups k d).greatest
project_count c counts k d f h =
    let ts = map (λ (p : ThermalCost). p.greatest) c.thermal in
    let gs = map (λ (g : GroupCost). g.greatest) c.groups in
    let n : length ts ≡ length c.thermal = length-map c.thermal (λ (p : ThermalCost). p.greatest) in
    let at : get_or (greatest c) (length c.thermal + k) 0 ≡ (get_or c.groups k d).greatest =
    ap (λ m. get_or (greatest c) (m + k) 0) (sym n) ∙ (get_or-append-add ts gs k 0 ∙ get_or-map (λ (g : GroupCost). g.greatest) c.groups k d 0 h) in
    omega (arith, at, f.most (length c.thermal + k) (omega (arith, h, f.width, width_is c)))

-- nothing is built of any candidate
pub nothing_at : (c : CostData) (k : ℕ) → k < length (greatest c) → get_or (nothing_built c) k 0 ≡ 0
nothing_at c k h = get_or-replicate (length (greatest c)) k 0 0 h

pub nothing_long : (c : CostData) → length (nothing_built c) ≡ length (greatest c)
nothing_long c = length-replicate (length (greatest c)) 0

pub nothing_fits : (c : CostData) → Fits c (nothing_built c)
nothing_fits c = record { width = nothing_long c; most = λ k b. omega (arith, nothing_at c k (omega (arith, b, nothing_long c))) }

-- salvage is small
pub item_small : (i : Item) (h : Horizon) (s : ℕ) → IsItem i → IsHorizon h → s * ONE ≤ domestic i * h.domestic + foreign i * h.foreign → s ≤ 256000000000000
item_small i h s v w b = omega (arith, b, worth_most i h v w)

pub sum_small : (t : Totals) (h : Horizon) → IsHorizon h → IsWithin h t → t.mw ≤ 40000000 → t.salvage ≤ 4000000000000000
sum_small t h w v few =
    let d : t.domestic ≤ 2000000000000000 = omega (arith, few, v.domestic) in
    let f : t.foreign ≤ 2000000000000000 = omega (arith, few, v.foreign) in
    let a : t.domestic * h.domestic ≤ 2000000000000000 * ONE = mul-le-mul d w.domestic in
    let b : t.foreign * h.foreign ≤ 2000000000000000 * ONE = mul-le-mul f w.foreign in
    omega (arith, a, b, v.salvage)

-- sums and what is added to nothing
pub adds_sum : (h : Horizon) (a b d : Totals) (xs : List Item) → Adds h nothing xs b → IsSum a b d → Adds h a xs d
adds_sum h a b d xs p q =
    record {
      domestic = omega (arith, p.domestic, q.domestic);
      foreign = omega (arith, p.foreign, q.foreign);
      inventory = omega (arith, p.inventory, q.inventory);
      salvage = omega (arith, p.salvage, q.salvage);
    }

-- the salvage of one more thermal candidate
pub salvage_more : (h : Horizon) (c : CostData) (before after : List ℕ) (k : ℕ) → Fits c before → Fits c after → k < length c.thermal →
    sum_by (item_salvage h) (map (λ (s : ThermalCost × (ℕ × ℕ)). added_units s.0 (s.1.1 - s.1.0)) (take (k + 1) (thermal_steps c before after)))
    ≡ sum_by (item_salvage h) (map (λ (s : ThermalCost × (ℕ × ℕ)). added_units s.0 (s.1.1 - s.1.0)) (take k (thermal_steps c before after))) + item_salvage h (added_units (get_or c.thermal k no_thermal) (get_or after k 0 - get_or before k 0))
salvage_more h c before after k fb fa l =
    let xs = map (λ (s : ThermalCost × (ℕ × ℕ)). added_units s.0 (s.1.1 - s.1.0)) (take k (thermal_steps c before after)) in
    let i : Item = added_units (get_or c.thermal k no_thermal) (get_or after k 0 - get_or before k 0) in
    ap (sum_by (item_salvage h)) (thermal_more c before after k fb fa l) ∙ (sum_by-append (item_salvage h) xs (i ∷ []) ∙ omega arith)

-- an entry of the tables
pub unit_entry : (h : Horizon) (c : CostData) (rows : List (List ℕ)) (before after : List ℕ) (k : ℕ) → AreUnitRows h c.thermal rows → Fits c after → k < length c.thermal →
    get_or (get_or rows k []) (get_or after k 0 - get_or before k 0) 0 ≡ item_salvage h (added_units (get_or c.thermal k no_thermal) (get_or after k 0 - get_or before k 0))
unit_entry h c rows before after k v f l =
    (v.each k no_thermal l).each (get_or after k 0 - get_or before k 0) (omega (arith, unit_count c after k no_thermal f l))

units_item : (p : ThermalCost) (n : ℕ) → IsThermalCost p → n ≤ 128 → IsItem (added_units p n)
units_item p n v few =
    record {
      mw = mul-le-mul few v.full.1;
      capdom = v.capdom;
      capfor = v.capfor;
      stock = v.stock;
      life = v.life;
    }

pub units_small : (h : Horizon) (p : ThermalCost) (n : ℕ) → IsHorizon h → IsThermalCost p → n ≤ 128 → item_salvage h (added_units p n) ≤ 256000000000000
units_small h p n w v few = item_small (added_units p n) h (item_salvage h (added_units p n)) (units_item p n v few) w (item_le h (added_units p n))

-- worths are small
pub invested_most : (d w f v : ℕ) → d ≤ 2000000000000000 → f ≤ 2000000000000000 → w ≤ ONE → v ≤ ONE → (d * w + f * v) / ONE ≤ 4000000000000000
invested_most d w f v a b x y = div-le_of_le-mul ONE (omega (arith, both_most d w f v 2000000000000000 ONE a b x y))

pub stocked_most : (i w h : ℕ) → i ≤ 400000000000000 → w ≤ ONE → i * (w - h) / ONE ≤ 400000000000000
stocked_most i w h a x =
    let f : w - h ≤ ONE = omega (arith, x) in
    let m : i * (w - h) ≤ 400000000000000 * ONE = mul-le-mul a f in
    div-le_of_le-mul ONE (omega (arith, m))

-- the factors of the tables
pub record AreFalling (t : StepTable) : Type 0 where
  pub worth : t.worth ≤ ONE
  pub abroad : t.abroad ≤ ONE
  pub falls : t.horizon.domestic ≤ t.worth
  pub sees : IsHorizon t.horizon

pub falling : (c : CostData) (t : StepTable) → IsStepTable c t → AreFalling t
falling c t v =
    let d : t.horizon.domestic ≡ end_factor c.rates.domestic c.years = λ i. (v.sees i).domestic in
    let f : t.horizon.foreign ≡ end_factor c.rates.foreign c.years = λ i. (v.sees i).foreign in
    record {
      worth = omega (arith, v.worth, end_most c.rates.domestic (t.year - 1));
      abroad = omega (arith, v.abroad, end_most c.rates.foreign (t.year - 1));
      falls = omega (arith, d, v.worth, end_later c.rates.domestic (t.year - 1) c.years (omega (arith, v.last)));
      sees = record { domestic = omega (arith, d, end_most c.rates.domestic c.years); foreign = omega (arith, f, end_most c.rates.foreign c.years) };
    }

-- the worth of sums in a year
abbrev pub worth_of : StepTable → ℕ → ℕ → ℕ → ℕ → ℕ
worth_of t d f i s = (d * t.worth + f * t.abroad) / ONE - s + i * (t.worth - t.horizon.domestic) / ONE

-- the sums are those of a step
pub record AreOfStep (c : CostData) (year : ℕ) (before after : List ℕ) (d f i s : ℕ) : Type 0 where
  pub domestic : d ≡ sum_by domestic (items c before after)
  pub foreign : f ≡ sum_by foreign (items c before after)
  pub inventory : i ≡ sum_by inventory (items c before after)
  pub salvage : s ≡ salvage c year before after

pub worth_is : (c : CostData) (t : StepTable) (before after : List ℕ) (d f i s : ℕ) → IsStepTable c t → AreOfStep c t.year before after d f i s → worth_of t d f i s ≡ net_build c t.year before after
worth_is c t before after d f i s v a =
    let h : t.horizon.domestic ≡ end_factor c.rates.domestic c.years = λ i. (v.sees i).domestic in
    λ j. (a.domestic j * v.worth j + a.foreign j * v.abroad j) / ONE - a.salvage j + a.inventory j * (v.worth j - h j) / ONE

pub regained_is : (c : CostData) (t : StepTable) (before after : List ℕ) (d f i s : ℕ) → IsStepTable c t → AreOfStep c t.year before after d f i s → s ≤ (d * t.worth + f * t.abroad) / ONE
regained_is c t before after d f i s v a =
    let b : (d * t.worth + f * t.abroad) / ONE ≡ build c t.year before after = λ j. (a.domestic j * v.worth j + a.foreign j * v.abroad j) / ONE in
    omega (arith, b, a.salvage, within_build c t.year before after v.last)

nothing_grows : (c : CostData) (counts : List ℕ) → IsAtMost (nothing_built c) counts
nothing_grows c counts = λ k b. omega (arith, nothing_at c k (omega (arith, b, nothing_long c)))

pub growing : (c : CostData) (before after : List ℕ) → Fits c before → Fits c after → IsAtMost before after → AreGrowing c (nothing_built c) before after
growing c before after f g h = record { first = nothing_fits c; middle = f; last = g; grows = nothing_grows c before; more = h }

-- a step's sums are those of the configuration after less those of the configuration before
pub record AreDifferences (c : CostData) (year : ℕ) (a b : Standing) (units : ℕ) : Type 0 where
  pub domestic : a.domestic ≤ b.domestic
  pub foreign : a.foreign ≤ b.foreign
  pub inventory : a.inventory ≤ b.inventory
  pub projects : a.projects ≤ b.projects
  pub step : AreOfStep c year a.config b.config (b.domestic - a.domestic) (b.foreign - a.foreign) (b.inventory - a.inventory) (units + (b.projects - a.projects))

pub differences : (c : CostData) (year : ℕ) (a b : Standing) (units : ℕ) → IsStanding c year a → IsStanding c year b → IsAtMost a.config b.config → units ≡ units_salvage_of (horizon c year) c a.config b.config → AreDifferences c year a b units
differences c year a b units v w h e =
    let g = growing c a.config b.config v.fits w.fits h in
    let d = sums_even domestic domestic_per_unit c (nothing_built c) a.config b.config g in
    let f = sums_even foreign foreign_per_unit c (nothing_built c) a.config b.config g in
    let i = sums_even inventory inventory_per_unit c (nothing_built c) a.config b.config g in
    let p = groups_sum (item_salvage (horizon c year)) c (nothing_built c) a.config b.config g in
    let s = sum_of (item_salvage (horizon c year)) c a.config b.config in
    record {
      domestic = omega (arith, v.domestic, w.domestic, d);
      foreign = omega (arith, v.foreign, w.foreign, f);
      inventory = omega (arith, v.inventory, w.inventory, i);
      projects = omega (arith, v.projects, w.projects, p);
      step = record {
        domestic = omega (arith, v.domestic, w.domestic, d);
        foreign = omega (arith, v.foreign, w.foreign, f);
        inventory = omega (arith, v.inventory, w.inventory, i);
        salvage = omega (arith, v.projects, w.projects, p, s, e);
      };
    }

pub differences_at : (c costs : CostData) (t : StepTable) (a b : Standing) (units : ℕ) → costs ≡ c → IsStepTable c t → IsStanding c t.year a → IsStanding c t.year b → IsAtMost a.config b.config → units ≡ units_salvage_of t.horizon costs a.config b.config → AreDifferences c t.year a b units
differences_at c costs t a b units same v x y g e =
    differences c t.year a b units x y g (e ∙ λ i. units_salvage_of (v.sees i) (same i) a.config b.config)

-- the sums over a configuration's additions from nothing
pub record AreFromNothing (c : CostData) (year : ℕ) (config : List ℕ) (thermal totals : Totals) : Type 0 where
  pub step : AreOfStep c year (nothing_built c) config totals.domestic totals.foreign totals.inventory totals.salvage
  pub less : thermal.salvage ≤ totals.salvage
  pub projects : totals.salvage - thermal.salvage ≡ projects_salvage c year (nothing_built c) config
  pub most : totals.domestic ≤ 2000000000000000
  pub most_abroad : totals.foreign ≤ 2000000000000000
  pub most_stock : totals.inventory ≤ 400000000000000

from_nothing : (c : CostData) (t : StepTable) (config : List ℕ) (thermal totals : Totals) → t.horizon ≡ horizon c t.year →
    Adds t.horizon nothing (map (λ (s : ThermalCost × (ℕ × ℕ)). added_units s.0 (s.1.1 - s.1.0)) (thermal_steps c (nothing_built c) config)) thermal →
    Adds t.horizon thermal (flat_map (λ (s : GroupCost × (ℕ × ℕ)). added_projects s.0 s.1.0 s.1.1) (group_steps c (nothing_built c) config)) totals →
    IsWithin t.horizon totals → totals.mw ≤ 40000000 → AreFromNothing c t.year config thermal totals
from_nothing c t config thermal totals sees p q w few =
    let all = adds_more t.horizon nothing thermal totals _ _ p q in
    let seen : sum_by (item_salvage t.horizon) (items c (nothing_built c) config) ≡ salvage c t.year (nothing_built c) config = ap (λ (h : Horizon). sum_by (item_salvage h) (items c (nothing_built c) config)) sees in
    let part : sum_by (item_salvage t.horizon) (flat_map (λ (s : GroupCost × (ℕ × ℕ)). added_projects s.0 s.1.0 s.1.1) (group_steps c (nothing_built c) config)) ≡ projects_salvage c t.year (nothing_built c) config =
    ap (λ (h : Horizon). sum_by (item_salvage h) (flat_map (λ (s : GroupCost × (ℕ × ℕ)). added_projects s.0 s.1.0 s.1.1) (group_steps c (nothing_built c) config))) sees in
    record {
      step = record {
        domestic = omega (arith, all.domestic);
        foreign = omega (arith, all.foreign);
        inventory = omega (arith, all.inventory);
        salvage = omega (arith, all.salvage, seen);
      };
      less = omega (arith, q.salvage);
      projects = omega (arith, q.salvage, part);
      most = omega (arith, w.domestic, few);
      most_abroad = omega (arith, w.foreign, few);
      most_stock = omega (arith, w.inventory, few);
    }

pub from_nothing_at : (c costs : CostData) (t : StepTable) (config : List ℕ) (thermal totals : Totals) → costs ≡ c → IsStepTable c t →
    Adds t.horizon nothing (map (λ (s : ThermalCost × (ℕ × ℕ)). added_units s.0 (s.1.1 - s.1.0)) (thermal_steps costs (nothing_built costs) config)) thermal →
    Adds t.horizon thermal (flat_map (λ (s : GroupCost × (ℕ × ℕ)). added_projects s.0 s.1.0 s.1.1) (group_steps costs (nothing_built costs) config)) totals →
    IsWithin t.horizon totals → totals.mw ≤ 40000000 → AreFromNothing c t.year config thermal totals
from_nothing_at c costs t config thermal totals same v p q w few =
    from_nothing c t config thermal totals v.sees
    (subst (λ (x : CostData). Adds t.horizon nothing (map (λ (s : ThermalCost × (ℕ × ℕ)). added_units s.0 (s.1.1 - s.1.0)) (thermal_steps x (nothing_built x) config)) thermal) same p)
    (subst (λ (x : CostData). Adds t.horizon thermal (flat_map (λ (s : GroupCost × (ℕ × ℕ)). added_projects s.0 s.1.0 s.1.1) (group_steps x (nothing_built x) config)) totals) same q) w few

-- the sums over one more project
pub project_next : (h : Horizon) (g : GroupCost) (n : ℕ) (a b : Totals) → Adds h nothing (added_projects g 0 n) a → Adds h a (added_projects g n (n + 1)) b → Adds h nothing (added_projects g 0 (n + 1)) b
project_next h g n a b p q = subst (λ (xs : List Item). Adds h nothing xs b) (projects_even g 0 n (n + 1) (omega arith) (omega arith)) (adds_more h nothing a b (added_projects g 0 n) (added_projects g n (n + 1)) p q)
