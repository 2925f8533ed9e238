use Rattle.std.proofs.Common.{◌≡◌, ℕ, ◌-◌, ◌*◌, ◌<◌, ◌≤◌, List, [], ◌∷◌, length, map, get_or, ap, ◌∙◌, sym, subst, arith}
use Rattle.std.proofs.Math.Nat.{mul-le-mul}
use Rattle.std.proofs.lemmas.List.{get_or_default, take_all}
use Rattle.cost_terms.specs.Cost.{added_units, nothing_built, thermal_steps}
use Rattle.cost_terms.specs.Totals.{Adds, nothing}
use Rattle.cost_terms.specs.declared.additions.Item.{Item}
use Rattle.cost_terms.specs.declared.prices.ThermalCost.{ThermalCost}
use Rattle.cost_terms.proofs.Steps.{adds_more, counted, no_thermal, pairs_long, thermal_more, width_is}
use Rattle.cost_terms.proofs.TableSteps.{nothing_at, nothing_fits, unit_count}
use Rattle.cost_terms.proofs.tables.thermal_sums.Goals as goal

pub bounds-as_slice-count : goal.bounds-as_slice-count
bounds-as_slice-count c =
    let costs = c.args.costs.now in
    let k = c.loop-k.k in
    let l : k < length costs.thermal = omega (arith, c.loop-k-test.true, ap length c.as_slice-thermal.ensures) in
    let there : k < length c.as_slice-rows.result.now = omega (arith, l, ap length c.as_slice-rows.ensures, c.requires.units.plants) in
    let row : c.as_slice.result.now ≡ get_or c.args.table.now.units k [] =
    c.as_slice.ensures ∙ (c.index-rows-k.is ∙ (get_or_default c.as_slice-rows.result.now k c.index-rows-k.result [] there ∙ ap (λ (rs : List (List ℕ)). get_or rs k []) c.as_slice-rows.ensures)) in
    omega (arith, ap length row, (c.requires.units.each k no_thermal l).counts, c.get-count.ensures.value, unit_count costs c.args.config.now k no_thermal c.requires.fits l)

pub loop-k-preserved : goal.loop-k-preserved
loop-k-preserved c =
    let costs = c.args.costs.now in
    let before = nothing_built costs in
    let after = c.args.config.now in
    let h = c.args.table.now.horizon in
    let k = c.loop-k.k in
    let l : k < length costs.thermal = omega (arith, c.loop-k-test.true, ap length c.as_slice-thermal.ensures) in
    let p : get_or c.as_slice-thermal.result.now k no_thermal ≡ get_or costs.thermal k no_thermal = ap (λ (ps : List ThermalCost). get_or ps k no_thermal) c.as_slice-thermal.ensures in
    let e : c.get-count.result ≡ get_or after k 0 - get_or before k 0 = omega (arith, c.get-count.ensures.value, nothing_at costs k (omega (arith, l, width_is costs))) in
    let one : Adds h c.loop-k.totals (added_units (get_or costs.thermal k no_thermal) (get_or after k 0 - get_or before k 0) ∷ []) c.add_salvaged-totals.result =
    subst (λ (i : Item). Adds h c.loop-k.totals (i ∷ []) c.add_salvaged-totals.result) (λ i. added_units (p i) (e i)) c.add_salvaged-totals.ensures.adds in
    let both = adds_more h nothing c.loop-k.totals c.add_salvaged-totals.result _ _ c.loop-k.invariant.adds one in
    let full : (get_or c.as_slice-thermal.result.now k no_thermal).full ≤ 20000 = rw p (c.requires.costs.thermal.1 k no_thermal l).full.1 in
    let units : c.get-count.result * (get_or c.as_slice-thermal.result.now k no_thermal).full ≤ 128 * 20000 = mul-le-mul c.get-count.ensures.small full in
    record {
      adds = subst (λ (xs : List Item). Adds h nothing xs c.add_salvaged-totals.result) (sym (thermal_more costs before after k (nothing_fits costs) c.requires.fits l)) both;
      within = c.add_salvaged-totals.ensures.within;
      mw = omega (arith, c.loop-k.invariant.mw, c.add_salvaged-totals.ensures.mw, units);
    }

pub returns-clause-adds : goal.returns-clause-adds
returns-clause-adds c =
    let costs = c.args.costs.now in
    let before = nothing_built costs in
    let steps = thermal_steps costs before c.args.config.now in
    let n : length steps ≡ length costs.thermal = pairs_long costs.thermal before c.args.config.now (counted costs before (nothing_fits costs)) (counted costs c.args.config.now c.requires.fits) in
    subst (λ (xs : List (ThermalCost × (ℕ × ℕ))). Adds c.args.table.now.horizon nothing (map (λ (s : ThermalCost × (ℕ × ℕ)). added_units s.0 (s.1.1 - s.1.0)) xs) c.loop-k.totals)
    (take_all c.loop-k.k steps (omega (arith, n, c.loop-k-test.false, ap length c.as_slice-thermal.ensures))) c.loop-k.invariant.adds
