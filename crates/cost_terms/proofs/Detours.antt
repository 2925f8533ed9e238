-- Building in two steps costs at most two dollars less than building at once: only the floors can make it cheaper.
use Rattle.std.proofs.Common.{◌≡◌, ℕ, ◌+◌, ◌-◌, ◌*◌, ◌/◌, ◌≤◌, List, length, map, drop, arith, sum_by, ⊎_elim}
use Rattle.std.specs.List.{flat_map}
use Rattle.std.proofs.Math.Nat.{div-le_self, div-mul-le_self, mul-le-mul_left}
use Rattle.std.proofs.lemmas.Bool.{cases_eq}
use Rattle.std.proofs.lemmas.List.{get_or-drop, length-drop}
use Rattle.std.proofs.lemmas.List.Sums.{sum_by-append}
use Rattle.std.proofs.lemmas.Nat.{le-div}
use Rattle.plant_data.specs.Configs.{IsAtMost}
use Rattle.wasp_fixed.specs.Discounts.{end_factor}
use Rattle.wasp_fixed.specs.declared.numbers.TheConstants.{ONE}
use Rattle.cost_terms.specs.Cost.{added_projects, added_units, build, domestic, foreign, group_steps, horizon, inventory, item_salvage, items, salvage, stock, thermal_steps}
use Rattle.cost_terms.specs.CostData.{Fits}
use Rattle.cost_terms.specs.declared.additions.Horizon.{Horizon}
use Rattle.cost_terms.specs.declared.additions.Item.{Item}
use Rattle.cost_terms.specs.declared.prices.CostData.{CostData}
use Rattle.cost_terms.proofs.Additivity.{IsMoreTogether, IsPerUnit, groups_even, of_projects, of_units, units_even, units_more}
use Rattle.cost_terms.proofs.Steps.{counted, groups_long}
use Rattle.cost_terms.proofs.Salvage.{within_build}

pub domestic_per_unit : IsPerUnit domestic
domestic_per_unit p m n = omega arith

pub foreign_per_unit : IsPerUnit foreign
foreign_per_unit p m n = omega arith

pub inventory_per_unit : IsPerUnit inventory
inventory_per_unit p m n = omega arith

-- floors of parts
floors_more : (x y q : ℕ) → 1 ≤ q → x / q + y / q ≤ (x + y) / q
floors_more x y q one =
    let below : (x / q + y / q) * q ≤ x + y = omega (arith, div-mul-le_self x q, div-mul-le_self y q) in
    le-div (x / q + y / q) (x + y) q one below

floors_less : (x y : ℕ) → (x + y) / ONE ≤ x / ONE + y / ONE + 1
floors_less x y = omega arith

worth_together : (worth worth' rest life : ℕ) → 1 ≤ life → worth * rest / (life * ONE) + worth' * rest / (life * ONE) ≤ (worth + worth') * rest / (life * ONE)
worth_together worth worth' rest life one =
    let sum : worth * rest + worth' * rest ≡ (worth + worth') * rest = omega arith in
    rw (← sum) (floors_more (worth * rest) (worth' * rest) (life * ONE) (omega (arith, one)))

none_left : (worth rest divisor : ℕ) → rest ≡ 0 → worth * rest / divisor ≡ 0
none_left worth rest divisor none =
    let m : worth * rest ≤ worth * 0 = mul-le-mul_left worth (omega (arith, none)) in
    omega (arith, m, div-le_self (worth * rest) divisor)

pub salvage_together : (h : Horizon) → IsMoreTogether (item_salvage h)
salvage_together h p m n =
    let worth : ℕ → ℕ = λ k. domestic (added_units p k) * h.domestic + foreign (added_units p k) * h.foreign in
    let rest = p.life - h.ahead in
    let both : worth m + worth n ≡ worth (m + n) = omega arith in
    ⊎_elim
    (λ none.
    let left : rest ≡ 0 = omega (arith, none) in
    omega (arith, none_left (worth m) rest (p.life * ONE) left, none_left (worth n) rest (p.life * ONE) left))
    (λ some. rw (← both) (worth_together (worth m) (worth n) rest p.life (omega (arith, some))))
    (cases_eq p.life 0)

-- the counts of the groups are at most each other where the configurations are
pub at_most_drop : (n : ℕ) (ms ns : List ℕ) → IsAtMost ms ns → IsAtMost (drop n ms) (drop n ns)
at_most_drop n ms ns h = λ k b. rw (get_or-drop n ms k 0, get_or-drop n ns k 0) (h (n + k) (omega (arith, b, length-drop n ms)))

pub sum_of : (f : Item → ℕ) (c : CostData) (before after : List ℕ) → sum_by f (items c before after) ≡ of_units f c.thermal before after + of_projects f c.groups (drop (length c.thermal) before) (drop (length c.thermal) after)
sum_of f c before after =
    sum_by-append f (map (λ s. added_units s.0 (s.1.1 - s.1.0)) (thermal_steps c before after)) (flat_map (λ s. added_projects s.0 s.1.0 s.1.1) (group_steps c before after))

-- three configurations, none of which has a count above the next
pub record AreGrowing (c : CostData) (os bs ns : List ℕ) : Type 0 where
  pub first : Fits c os
  pub middle : Fits c bs
  pub last : Fits c ns
  pub grows : IsAtMost os bs
  pub more : IsAtMost bs ns

pub groups_sum : (f : Item → ℕ) (c : CostData) (os bs ns : List ℕ) → AreGrowing c os bs ns →
    of_projects f c.groups (drop (length c.thermal) os) (drop (length c.thermal) bs) + of_projects f c.groups (drop (length c.thermal) bs) (drop (length c.thermal) ns) ≡ of_projects f c.groups (drop (length c.thermal) os) (drop (length c.thermal) ns)
groups_sum f c os bs ns g =
    let t = length c.thermal in
    groups_even f c.groups (drop t os) (drop t bs) (drop t ns) (at_most_drop t os bs g.grows) (at_most_drop t bs ns g.more) (omega (arith, groups_long c os g.first)) (omega (arith, groups_long c bs g.middle)) (omega (arith, groups_long c ns g.last))

pub sums_even : (f : Item → ℕ) → IsPerUnit f → (c : CostData) (os bs ns : List ℕ) → AreGrowing c os bs ns → sum_by f (items c os bs) + sum_by f (items c bs ns) ≡ sum_by f (items c os ns)
sums_even f u c os bs ns g =
    omega (arith, sum_of f c os bs, sum_of f c bs ns, sum_of f c os ns, groups_sum f c os bs ns g, units_even f u c.thermal os bs ns g.grows g.more (counted c os g.first) (counted c bs g.middle) (counted c ns g.last))

pub sums_more : (f : Item → ℕ) → IsMoreTogether f → (c : CostData) (os bs ns : List ℕ) → AreGrowing c os bs ns → sum_by f (items c os bs) + sum_by f (items c bs ns) ≤ sum_by f (items c os ns)
sums_more f u c os bs ns g =
    omega (arith, sum_of f c os bs, sum_of f c bs ns, sum_of f c os ns, groups_sum f c os bs ns g, units_more f u c.thermal os bs ns g.grows g.more (counted c os g.first) (counted c bs g.middle) (counted c ns g.last))

build_sum : (d d' e f f' g w v : ℕ) → d + d' ≡ e → f + f' ≡ g → (e * w + g * v) / ONE ≤ (d * w + f * v) / ONE + (d' * w + f' * v) / ONE + 1
build_sum d d' e f f' g w v x y =
    let sum : d * w + f * v + (d' * w + f' * v) ≡ e * w + g * v = rw (← x, ← y) (omega arith) in
    rw (← sum) (floors_less (d * w + f * v) (d' * w + f' * v))

stock_sum : (i i' j w : ℕ) → i + i' ≡ j → j * w / ONE ≤ i * w / ONE + i' * w / ONE + 1
stock_sum i i' j w x =
    let sum : i * w + i' * w ≡ j * w = rw (← x) (omega arith) in
    rw (← sum) (floors_less (i * w) (i' * w))

pub detour : (c : CostData) (year : ℕ) (os bs ns : List ℕ) → AreGrowing c os bs ns → year ≤ c.years →
    build c year os ns - salvage c year os ns + stock c year os ns
    ≤ build c year os bs - salvage c year os bs + stock c year os bs + (build c year bs ns - salvage c year bs ns + stock c year bs ns) + 2
detour c year os bs ns g last =
    let b = build_sum _ _ _ _ _ _ (end_factor c.rates.domestic (year - 1)) (end_factor c.rates.foreign (year - 1)) (sums_even domestic domestic_per_unit c os bs ns g) (sums_even foreign foreign_per_unit c os bs ns g) in
    let s = stock_sum _ _ _ (end_factor c.rates.domestic (year - 1) - end_factor c.rates.domestic c.years) (sums_even inventory inventory_per_unit c os bs ns g) in
    let r : salvage c year os bs + salvage c year bs ns ≤ salvage c year os ns = sums_more (item_salvage (horizon c year)) (salvage_together (horizon c year)) c os bs ns g in
    omega (arith, b, s, r, within_build c year os bs last, within_build c year bs ns last, within_build c year os ns last)
