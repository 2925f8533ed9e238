use Rattle.std.proofs.Common.{◌≡◌, ℕ, ◌-◌, ◌*◌, ◌<◌, ◌≤◌, List, [], ◌∷◌, length, map, get_or, ap, sym, subst, arith}
use Rattle.std.proofs.Math.Nat.{mul-le-mul}
use Rattle.std.proofs.lemmas.List.{take_all}
use Rattle.cost_terms.specs.Cost.{added_units, thermal_steps}
use Rattle.cost_terms.specs.Totals.{Adds, nothing}
use Rattle.cost_terms.specs.declared.additions.Item.{Item}
use Rattle.cost_terms.specs.declared.prices.ThermalCost.{ThermalCost}
use Rattle.cost_terms.proofs.Steps.{adds_more, counted, no_thermal, pairs_long, thermal_more}
use Rattle.cost_terms.proofs.additions.thermal_totals.Goals as goal

pub loop-k-preserved : goal.loop-k-preserved
loop-k-preserved c =
    let costs = c.args.costs.now in
    let before = c.args.before.now in
    let after = c.args.after.now in
    let k = c.loop-k.k in
    let l : k < length costs.thermal = omega (arith, c.loop-k-test.true, ap length c.as_slice-thermal.ensures) in
    let p : get_or c.as_slice-thermal.result.now k no_thermal ≡ get_or costs.thermal k no_thermal = ap (λ (ps : List ThermalCost). get_or ps k no_thermal) c.as_slice-thermal.ensures in
    let one : Adds c.args.horizon.now c.loop-k.totals (added_units (get_or costs.thermal k no_thermal) (get_or after k 0 - get_or before k 0) ∷ []) c.add_units-totals.result =
    subst (λ (i : Item). Adds c.args.horizon.now c.loop-k.totals (i ∷ []) c.add_units-totals.result) (λ i. added_units (p i) (c.get.ensures.value i - c.get-in-loop-k.ensures.value i)) c.add_units-totals.ensures.adds in
    let both = adds_more c.args.horizon.now nothing c.loop-k.totals c.add_units-totals.result _ _ c.loop-k.invariant.adds one in
    let full : (get_or c.as_slice-thermal.result.now k no_thermal).full ≤ 20000 = rw p (c.requires.costs.thermal.1 k no_thermal l).full.1 in
    let count : c.get.result - c.get-in-loop-k.result ≤ 128 = omega (arith, c.get.ensures.small) in
    let units : (c.get.result - c.get-in-loop-k.result) * (get_or c.as_slice-thermal.result.now k no_thermal).full ≤ 128 * 20000 = mul-le-mul count full in
    record {
      adds = subst (λ (xs : List Item). Adds c.args.horizon.now nothing xs c.add_units-totals.result) (sym (thermal_more costs before after k c.requires.before c.requires.after l)) both;
      within = c.add_units-totals.ensures.within;
      mw = omega (arith, c.loop-k.invariant.mw, c.add_units-totals.ensures.mw, units);
    }

pub returns-clause-adds : goal.returns-clause-adds
returns-clause-adds c =
    let costs = c.args.costs.now in
    let steps = thermal_steps costs c.args.before.now c.args.after.now in
    let n : length steps ≡ length costs.thermal = pairs_long costs.thermal c.args.before.now c.args.after.now (counted costs c.args.before.now c.requires.before) (counted costs c.args.after.now c.requires.after) in
    subst (λ (xs : List (ThermalCost × (ℕ × ℕ))). Adds c.args.horizon.now nothing (map (λ (s : ThermalCost × (ℕ × ℕ)). added_units s.0 (s.1.1 - s.1.0)) xs) c.loop-k.totals)
    (take_all c.loop-k.k steps (omega (arith, n, c.loop-k-test.false, ap length c.as_slice-thermal.ensures))) c.loop-k.invariant.adds
