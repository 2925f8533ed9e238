-- Steps of the loop that adds the water of projects.
use Rattle.std.proofs.Common.{◌≡◌, ℕ, ◌+◌, ◌*◌, ◌<◌, ◌≤◌, List, length, map, sum, get_or, sym, ap, ◌∙◌, arith, zero-add, take, sum_by, drop}
use Rattle.std.specs.List.{range_with_len, zip}
use Rattle.std.proofs.Math.Nat.{mul-le-mul_right, add-mul}
use Rattle.std.proofs.lemmas.List.FromFn.{sum_by-map-range_with_len_more}
use Rattle.std.proofs.lemmas.List.{length-append, length-map, length-drop, get_or-drop, get_or_default}
use Rattle.plant_data.specs.declared.plant.Plant.{Plant}
use Rattle.plant_data.specs.declared.shape.Load.{Load}
use Rattle.plant_data.specs.declared.water.Group.{Group}
use Rattle.plant_data.specs.declared.water.Water.{Water}
use Rattle.wasp_fixed.proofs.Lists.{zip_more}
use Rattle.year_system.specs.System.{System, IsGroup, Fits, greatest}
use Rattle.year_system.specs.Capacity.{group_mw, group_water, no_group, no_water, water_at}

pub place_within : (j P p C c n : ℕ) → j < n → p < P → c < C → (j * P + p) * C + c < n * P * C
place_within j P p C c n h k l =
    let m : j + 1 ≤ n = omega (arith, h) in
    let a : (j + 1) * P ≤ n * P = mul-le-mul_right P m in
    let b : j * P + p + 1 ≤ n * P = omega (arith, a, k, add-mul j 1 P) in
    let d : (j * P + p + 1) * C ≤ n * P * C = mul-le-mul_right C b in
    omega (arith, d, l, add-mul (j * P + p) 1 C)

-- the group at a place
pub group_is : (s : System) (k : ℕ) (groups : List Group) (d : Group) → groups ≡ s.groups → k < length s.groups → get_or groups k d ≡ get_or s.groups k no_group
group_is s k groups d e h = get_or_default groups k d no_group (omega (arith, h, ap length e)) ∙ ap (λ (gs : List Group). get_or gs k no_group) e

pub read_is : (s : System) (g : Group) (j p c : ℕ) (loads : List Load) (weights : List ℕ) (water : List Water) → loads ≡ s.loads → weights ≡ s.weights → water ≡ g.water →
    get_or water ((j * length loads + p) * length weights + c) no_water ≡ water_at s g j p c
read_is s g j p c loads weights water el ew eg = λ i. get_or (eg i) ((j * length (el i) + p) * length (ew i) + c) no_water

pub water_most : (s : System) (g : Group) (j p c : ℕ) → IsGroup s.step (length s.loads) (length s.weights) g → j < g.existing + g.greatest → p < length s.loads → c < length s.weights →
    ((water_at s g j p c).base ≤ 20000) × ((water_at s g j p c).peak ≤ 20000) × ((water_at s g j p c).energy ≤ 200000000)
water_most s g j p c v h k l =
    let w = v.ranges ((j * length s.loads + p) * length s.weights + c) no_water (rw v.water (place_within j (length s.loads) p (length s.weights) c (g.existing + g.greatest) h k l)) in (w.base, w.peak, w.energy)

pub sum_range_more : (f : ℕ → ℕ) (n : ℕ) → sum (map f (range_with_len 0 (n + 1))) ≡ sum (map f (range_with_len 0 n)) + f n
sum_range_more f n = sum_by-map-range_with_len_more (λ x. x) f 0 n n (zero-add n)

-- the counts of the groups
pub groups_long : (s : System) (counts : List ℕ) → Fits s counts → length (drop (length s.thermal) counts) ≡ length s.groups
groups_long s counts h =
    let g : length (greatest s) ≡ length s.thermal + length s.groups =
    length-append (map (λ (p : Plant). p.units) s.thermal) (map (λ (q : Group). q.greatest) s.groups) ∙ omega (arith, length-map s.thermal (λ (p : Plant). p.units), length-map s.groups (λ (q : Group). q.greatest)) in
    omega (arith, length-drop (length s.thermal) counts, h.width, g)

-- one more group
pub group_more : (s : System) (counts : List ℕ) (period k n : ℕ) (w : Water) → Fits s counts → k < length s.groups → n ≡ get_or counts (length s.thermal + k) 0 →
    w ≡ group_water s (get_or s.groups k no_group) ((get_or s.groups k no_group).existing + n) period 0 →
    sum_by (λ (e : Group × ℕ). group_mw s period e.0 e.1) (take (k + 1) (zip s.groups (drop (length s.thermal) counts))) ≡ sum_by (λ (e : Group × ℕ). group_mw s period e.0 e.1) (take k (zip s.groups (drop (length s.thermal) counts))) + (w.base + w.peak)
group_more s counts period k n w h l en ew =
    let g = get_or s.groups k no_group in
    let at : n ≡ get_or (drop (length s.thermal) counts) k 0 = en ∙ sym (get_or-drop (length s.thermal) counts k 0) in
    let water : w ≡ group_water s g (g.existing + get_or (drop (length s.thermal) counts) k 0) period 0 = ew ∙ ap (λ m. group_water s g (g.existing + m) period 0) at in
    zip_more (λ (e : Group × ℕ). group_mw s period e.0 e.1) s.groups (drop (length s.thermal) counts) k no_group (omega (arith, groups_long s counts h)) l
    ∙ ap (λ (v : Water). sum_by (λ (e : Group × ℕ). group_mw s period e.0 e.1) (take k (zip s.groups (drop (length s.thermal) counts))) + (v.base + v.peak)) (sym water)
