use Rattle.std.proofs.Common.{◌≡◌, ℕ, ◌*◌, ◌<◌, ◌≤◌, List, length, get_or, ap, ◌∙◌, arith, sum_by}
use Rattle.std.specs.List.{zip}
use Rattle.std.proofs.Math.Nat.{mul-le-mul}
use Rattle.std.proofs.lemmas.List.{take_all}
use Rattle.std.proofs.lemmas.Slice.Zip.{length-zip}
use Rattle.wasp_fixed.proofs.Lists.{zip_more}
use Rattle.cost_terms.specs.declared.prices.ThermalCost.{ThermalCost}
use Rattle.cost_terms.proofs.Steps.{counted, no_thermal}
use Rattle.cost_terms.proofs.running.thermal_fixed.Goals as goal

pub loop-k-preserved : goal.loop-k-preserved
loop-k-preserved c =
    let costs = c.args.costs.now in
    let counts = c.args.config.now in
    let k = c.loop-k.k in
    let f : ThermalCost × ℕ → ℕ = λ e. e.1 * e.0.full * e.0.fixed in
    let l : k < length costs.thermal = omega (arith, c.loop-k-test.true, ap length c.as_slice-thermal.ensures) in
    let p : get_or c.as_slice-thermal.result.now k no_thermal ≡ get_or costs.thermal k no_thermal = ap (λ (ps : List ThermalCost). get_or ps k no_thermal) c.as_slice-thermal.ensures in
    let v = c.requires.costs.thermal.1 k no_thermal l in
    let e : f (get_or c.as_slice-thermal.result.now k no_thermal, c.get.result) ≡ f (get_or costs.thermal k no_thermal, get_or counts k 0) = λ i. f (p i, c.get.ensures.value i) in
    let kw : c.get.result * (get_or costs.thermal k no_thermal).full ≤ 128 * 20000 = mul-le-mul c.get.ensures.small v.full.1 in
    let most : c.get.result * (get_or costs.thermal k no_thermal).full * (get_or costs.thermal k no_thermal).fixed ≤ 128 * 20000 * 10000 = mul-le-mul kw v.fixed in
    let same : f (get_or c.as_slice-thermal.result.now k no_thermal, c.get.result) ≡ f (get_or costs.thermal k no_thermal, c.get.result) = ap (λ (q : ThermalCost). f (q, c.get.result)) p in
    record {
      value = omega (arith, c.loop-k.invariant.value, e, zip_more f costs.thermal counts k no_thermal (counted costs counts c.requires.fits) l);
      small = omega (arith, c.loop-k.invariant.small, same, most);
    }

pub returns-clause-value : goal.returns-clause-value
returns-clause-value c =
    let z = zip c.args.costs.now.thermal c.args.config.now in
    c.loop-k.invariant.value ∙ ap (sum_by (λ (e : ThermalCost × ℕ). e.1 * e.0.full * e.0.fixed)) (take_all c.loop-k.k z (omega (arith, length-zip c.args.costs.now.thermal c.args.config.now, c.loop-k-test.false, ap length c.as_slice-thermal.ensures)))
