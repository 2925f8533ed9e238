-- Steps of the loops over candidates.
use Rattle.std.proofs.Common.{◌≡◌, ℕ, ◌+◌, ◌-◌, ◌<◌, ◌≤◌, ◌++◌, List, [], ◌∷◌, length, map, take, drop, get_or, ap, ◌∙◌, arith}
use Rattle.std.specs.List.{flat_map, zip}
use Rattle.std.proofs.lemmas.List.{get_or-drop, length-append, length-drop, length-map, map-append, take_more}
use Rattle.std.proofs.lemmas.List.Sums.{sum_by-append}
use Rattle.std.proofs.lemmas.Slice.Zip.{get_or-zip, length-zip}
use Rattle.plant_data.proofs.UnitLists.{flat_map_take_more}
use Rattle.cost_terms.specs.Cost.{added_projects, added_units, domestic, foreign, group_steps, inventory, item_salvage, thermal_steps}
use Rattle.cost_terms.specs.CostData.{Fits, greatest}
use Rattle.cost_terms.specs.Totals.{Adds}
use Rattle.cost_terms.specs.declared.additions.Horizon.{Horizon}
use Rattle.cost_terms.specs.declared.additions.Item.{Item}
use Rattle.cost_terms.specs.declared.additions.Totals.{Totals}
use Rattle.cost_terms.specs.declared.prices.CostData.{CostData}
use Rattle.cost_terms.specs.declared.prices.GroupCost.{GroupCost}
use Rattle.cost_terms.specs.declared.prices.ProjectCost.{ProjectCost}
use Rattle.cost_terms.specs.declared.prices.ThermalCost.{ThermalCost}

-- what is read past the last candidate
abbrev pub no_thermal : ThermalCost
no_thermal = record { greatest = 0; full = 0; fixed = 0; capdom = 0; capfor = 0; stock = 0; life = 0 }

abbrev pub no_group : GroupCost
no_group = record { existing = 0; greatest = 0; fixed = 0; projects = [] }

abbrev pub no_project : ProjectCost
no_project = record { capacity = 0; capdom = 0; capfor = 0; life = 0 }

pub width_is : (c : CostData) → length (greatest c) ≡ length c.thermal + length c.groups
width_is c =
    length-append (map (λ (p : ThermalCost). p.greatest) c.thermal) (map (λ (g : GroupCost). g.greatest) c.groups)
    ∙ omega (arith, length-map c.thermal (λ (p : ThermalCost). p.greatest), length-map c.groups (λ (g : GroupCost). g.greatest))

pub counted : (c : CostData) (counts : List ℕ) → Fits c counts → length c.thermal ≤ length counts
counted c counts f = omega (arith, f.width, width_is c)

pub groups_long : (c : CostData) (counts : List ℕ) → Fits c counts → length (drop (length c.thermal) counts) ≡ length c.groups
groups_long c counts f = omega (arith, length-drop (length c.thermal) counts, f.width, width_is c)

-- a candidate with its counts before and after
pub pair_at : {X : Type 0} (xs : List X) (ms ns : List ℕ) (k : ℕ) (d : X) → length xs ≤ length ms → length xs ≤ length ns → k < length xs →
    get_or (zip xs (zip ms ns)) k (d, (0, 0)) ≡ (get_or xs k d, (get_or ms k 0, get_or ns k 0))
pair_at xs ms ns k d l m h =
    let both : k < length (zip ms ns) = omega (arith, length-zip ms ns) in
    get_or-zip xs (zip ms ns) k (d, (0, 0)) h both ∙ ap (λ e. (get_or xs k d, e)) (get_or-zip ms ns k (0, 0) (omega arith) (omega arith))

pub pairs_long : {X : Type 0} (xs : List X) (ms ns : List ℕ) → length xs ≤ length ms → length xs ≤ length ns → length (zip xs (zip ms ns)) ≡ length xs
pairs_long xs ms ns l m = omega (arith, length-zip xs (zip ms ns), length-zip ms ns)

-- one more thermal candidate
pub thermal_more : (c : CostData) (before after : List ℕ) (k : ℕ) → Fits c before → Fits c after → k < length c.thermal →
    map (λ (s : ThermalCost × (ℕ × ℕ)). added_units s.0 (s.1.1 - s.1.0)) (take (k + 1) (thermal_steps c before after))
    ≡ map (λ (s : ThermalCost × (ℕ × ℕ)). added_units s.0 (s.1.1 - s.1.0)) (take k (thermal_steps c before after)) ++ added_units (get_or c.thermal k no_thermal) (get_or after k 0 - get_or before k 0) ∷ []
thermal_more c before after k fb fa h =
    let f : ThermalCost × (ℕ × ℕ) → Item = λ s. added_units s.0 (s.1.1 - s.1.0) in
    let steps = thermal_steps c before after in
    let lb = counted c before fb in
    let la = counted c after fa in
    let n : k < length steps = omega (arith, pairs_long c.thermal before after lb la) in
    ap (map f) (take_more steps k (no_thermal, (0, 0)) n) ∙ (map-append f (take k steps) (get_or steps k (no_thermal, (0, 0)) ∷ [])
    ∙ ap (λ e. map f (take k steps) ++ f e ∷ []) (pair_at c.thermal before after k no_thermal lb la h))

-- one more group
pub group_more : (c : CostData) (before after : List ℕ) (k : ℕ) → Fits c before → Fits c after → k < length c.groups →
    flat_map (λ (s : GroupCost × (ℕ × ℕ)). added_projects s.0 s.1.0 s.1.1) (take (k + 1) (group_steps c before after))
    ≡ flat_map (λ (s : GroupCost × (ℕ × ℕ)). added_projects s.0 s.1.0 s.1.1) (take k (group_steps c before after))
    ++ added_projects (get_or c.groups k no_group) (get_or before (length c.thermal + k) 0) (get_or after (length c.thermal + k) 0)
group_more c before after k fb fa h =
    let f : GroupCost × (ℕ × ℕ) → List Item = λ s. added_projects s.0 s.1.0 s.1.1 in
    let steps = group_steps c before after in
    let mb = drop (length c.thermal) before in
    let ma = drop (length c.thermal) after in
    let lb : length c.groups ≤ length mb = omega (arith, groups_long c before fb) in
    let la : length c.groups ≤ length ma = omega (arith, groups_long c after fa) in
    let n : k < length steps = omega (arith, pairs_long c.groups mb ma lb la) in
    flat_map_take_more f steps k (no_group, (0, 0)) n
    ∙ (ap (λ e. flat_map f (take k steps) ++ f e) (pair_at c.groups mb ma k no_group lb la h)
    ∙ λ i. flat_map f (take k steps) ++ added_projects (get_or c.groups k no_group) (get_or-drop (length c.thermal) before k 0 i) (get_or-drop (length c.thermal) after k 0 i))

-- one more project of a group
abbrev pub project_item : ProjectCost → Item
project_item p = record { mw = p.capacity; capdom = p.capdom; capfor = p.capfor; stock = 0; life = p.life }

pub project_more : (g : GroupCost) (from j : ℕ) → g.existing + from + j < length g.projects →
    added_projects g from (from + (j + 1)) ≡ added_projects g from (from + j) ++ project_item (get_or g.projects (g.existing + from + j) no_project) ∷ []
project_more g from j h =
    let rest = drop (g.existing + from) g.projects in
    let more : from + (j + 1) - from ≡ j + 1 = omega arith in
    let same : j ≡ from + j - from = omega arith in
    let n : j < length rest = omega (arith, length-drop (g.existing + from) g.projects, h) in
    ap (λ n. map project_item (take n rest)) more
    ∙ (ap (map project_item) (take_more rest j no_project n)
    ∙ (map-append project_item (take j rest) (get_or rest j no_project ∷ [])
    ∙ λ i. map project_item (take (same i) rest) ++ project_item (get_or-drop (g.existing + from) g.projects j no_project i) ∷ []))

-- sums of one list and then of another
pub adds_more : (h : Horizon) (a b d : Totals) (xs ys : List Item) → Adds h a xs b → Adds h b ys d → Adds h a (xs ++ ys) d
adds_more h a b d xs ys p q =
    record {
      domestic = omega (arith, p.domestic, q.domestic, sum_by-append domestic xs ys);
      foreign = omega (arith, p.foreign, q.foreign, sum_by-append foreign xs ys);
      inventory = omega (arith, p.inventory, q.inventory, sum_by-append inventory xs ys);
      salvage = omega (arith, p.salvage, q.salvage, sum_by-append (item_salvage h) xs ys);
    }
