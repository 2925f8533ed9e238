use Rattle.std.proofs.Common.{◌≡◌, ℕ, ◌-◌, ◌<◌, List, [], length, map, get_or, ap, ◌∙◌, sum_by, arith}
use Rattle.std.proofs.lemmas.List.{get_or_default, take_all}
use Rattle.cost_terms.specs.Cost.{added_units, item_salvage, thermal_steps}
use Rattle.cost_terms.specs.declared.prices.ThermalCost.{ThermalCost}
use Rattle.cost_terms.proofs.Steps.{counted, no_thermal, pairs_long}
use Rattle.cost_terms.proofs.TableSteps.{salvage_more, unit_count, unit_entry, units_small}
use Rattle.cost_terms.proofs.tables.thermal_salvage.Goals as goal

pub bounds-as_slice-get : goal.bounds-as_slice-get
bounds-as_slice-get c =
    let costs = c.args.costs.now in
    let k = c.loop-k.k in
    let l : k < length costs.thermal = omega (arith, c.loop-k-test.true, ap length c.as_slice-rows.ensures, c.requires.units.plants) in
    let row : c.as_slice.result.now ≡ get_or c.args.table.now.units k [] =
    c.as_slice.ensures ∙ (c.index-rows-k.is ∙ (get_or_default c.as_slice-rows.result.now k c.index-rows-k.result [] c.loop-k-test.true ∙ ap (λ (rs : List (List ℕ)). get_or rs k []) c.as_slice-rows.ensures)) in
    omega (arith, ap length row, (c.requires.units.each k no_thermal l).counts, c.get.ensures.value, unit_count costs c.args.after.now k no_thermal c.requires.after l)

pub overflow_add-total : goal.overflow_add-total
overflow_add-total c =
    let costs = c.args.costs.now in
    let k = c.loop-k.k in
    let l : k < length costs.thermal = omega (arith, c.loop-k-test.true, ap length c.as_slice-rows.ensures, c.requires.units.plants) in
    let row : c.as_slice.result.now ≡ get_or c.args.table.now.units k [] =
    c.as_slice.ensures ∙ (c.index-rows-k.is ∙ (get_or_default c.as_slice-rows.result.now k c.index-rows-k.result [] c.loop-k-test.true ∙ ap (λ (rs : List (List ℕ)). get_or rs k []) c.as_slice-rows.ensures)) in
    let n : c.get.result - c.get-in-loop-k.result ≡ get_or c.args.after.now k 0 - get_or c.args.before.now k 0 = omega (arith, c.get.ensures.value, c.get-in-loop-k.ensures.value) in
    let e : get_or c.as_slice.result.now (c.get.result - c.get-in-loop-k.result) 0 ≡ item_salvage c.args.table.now.horizon (added_units (get_or costs.thermal k no_thermal) (get_or c.args.after.now k 0 - get_or c.args.before.now k 0)) =
    (λ i. get_or (row i) (n i) 0) ∙ unit_entry c.args.table.now.horizon costs c.args.table.now.units c.args.before.now c.args.after.now k c.requires.units c.requires.after l in
    let s = units_small c.args.table.now.horizon (get_or costs.thermal k no_thermal) (get_or c.args.after.now k 0 - get_or c.args.before.now k 0) c.requires.horizon (c.requires.costs.thermal.1 k no_thermal l) (omega (arith, c.get.ensures.value, c.get.ensures.small)) in
    omega (arith, c.loop-k.invariant.small, e, s, l, c.requires.costs.thermal.0)

pub loop-k-preserved : goal.loop-k-preserved
loop-k-preserved c =
    let costs = c.args.costs.now in
    let h = c.args.table.now.horizon in
    let k = c.loop-k.k in
    let l : k < length costs.thermal = omega (arith, c.loop-k-test.true, ap length c.as_slice-rows.ensures, c.requires.units.plants) in
    let row : c.as_slice.result.now ≡ get_or c.args.table.now.units k [] =
    c.as_slice.ensures ∙ (c.index-rows-k.is ∙ (get_or_default c.as_slice-rows.result.now k c.index-rows-k.result [] c.loop-k-test.true ∙ ap (λ (rs : List (List ℕ)). get_or rs k []) c.as_slice-rows.ensures)) in
    let n : c.get.result - c.get-in-loop-k.result ≡ get_or c.args.after.now k 0 - get_or c.args.before.now k 0 = omega (arith, c.get.ensures.value, c.get-in-loop-k.ensures.value) in
    let e : get_or c.as_slice.result.now (c.get.result - c.get-in-loop-k.result) 0 ≡ item_salvage h (added_units (get_or costs.thermal k no_thermal) (get_or c.args.after.now k 0 - get_or c.args.before.now k 0)) =
    (λ i. get_or (row i) (n i) 0) ∙ unit_entry h costs c.args.table.now.units c.args.before.now c.args.after.now k c.requires.units c.requires.after l in
    let s = units_small h (get_or costs.thermal k no_thermal) (get_or c.args.after.now k 0 - get_or c.args.before.now k 0) c.requires.horizon (c.requires.costs.thermal.1 k no_thermal l) (omega (arith, c.get.ensures.value, c.get.ensures.small)) in
    record {
      value = omega (arith, c.loop-k.invariant.value, e, salvage_more h costs c.args.before.now c.args.after.now k c.requires.before c.requires.after l);
      small = omega (arith, c.loop-k.invariant.small, e, s);
    }

pub returns : goal.returns
returns c =
    let costs = c.args.costs.now in
    let steps = thermal_steps costs c.args.before.now c.args.after.now in
    let n : length steps ≡ length costs.thermal = pairs_long costs.thermal c.args.before.now c.args.after.now (counted costs c.args.before.now c.requires.before) (counted costs c.args.after.now c.requires.after) in
    record {
      value = c.loop-k.invariant.value ∙ ap (λ (xs : List (ThermalCost × (ℕ × ℕ))). sum_by (item_salvage c.args.table.now.horizon) (map (λ (s : ThermalCost × (ℕ × ℕ)). added_units s.0 (s.1.1 - s.1.0)) xs))
          (take_all c.loop-k.k steps (omega (arith, n, c.loop-k-test.false, ap length c.as_slice-rows.ensures, c.requires.units.plants)));
    }
