use Rattle.std.proofs.Common.{◌≡◌, ◌*◌, ◌<◌, ℕ, length, ap, ◌∙◌, arith, sum_by, get_or}
use Rattle.std.specs.List.{zip}
use Rattle.std.proofs.lemmas.List.{take_all}
use Rattle.std.proofs.lemmas.Slice.Zip.{length-zip}
use Rattle.plant_data.proofs.UnitLists.{no_plant}
use Rattle.plant_data.specs.declared.plant.Plant.{Plant}
use Rattle.year_system.proofs.ThermalSteps.{one_more}
use Rattle.year_system.proofs.water.candidate_mw.Goals as goal

pub loop-k-preserved : goal.loop-k-preserved
loop-k-preserved c =
    let s = c.args.system.now in
    let k = c.loop-k.k in
    let v = c.loop-k.invariant in
    let l : k < length s.thermal = omega (arith, c.loop-k-test.true, ap length c.thermal-candidates.ensures.value) in
    let m = one_more s c.args.config.now k c.requires l in
    let e : c.get.result * (get_or c.thermal-candidates.result.now k no_plant).full ≡ get_or c.args.config.now k 0 * (get_or s.thermal k no_plant).full =
    λ i. c.get.ensures.value i * (get_or (c.thermal-candidates.ensures.value i) k no_plant).full in
    record { value = omega (arith, v.value, e, m.value); small = omega (arith, v.small, e, m.small) }

pub returns-clause-value : goal.returns-clause-value
returns-clause-value c =
    let s = c.args.system.now in
    let z = zip s.thermal c.args.config.now in
    c.loop-k.invariant.value ∙ ap (sum_by (λ (e : Plant × ℕ). e.1 * e.0.full)) (take_all c.loop-k.k z (omega (arith, length-zip s.thermal c.args.config.now, c.loop-k-test.false, ap length c.thermal-candidates.ensures.value)))
