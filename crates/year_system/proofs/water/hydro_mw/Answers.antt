use Rattle.std.proofs.Common.{◌≡◌, ◌+◌, ◌<◌, ℕ, length, ap, ◌∙◌, arith, sum_by, get_or, drop}
use Rattle.std.specs.List.{zip}
use Rattle.std.proofs.lemmas.List.{take_all}
use Rattle.std.proofs.lemmas.Slice.Zip.{length-zip}
use Rattle.plant_data.specs.declared.water.Group.{Group}
use Rattle.plant_data.specs.declared.water.Water.{Water}
use Rattle.year_system.specs.Capacity.{group_mw, group_water, no_group}
use Rattle.year_system.proofs.WaterSteps.{group_is, group_more}
use Rattle.year_system.proofs.water.hydro_mw.Goals as goal

pub loop-k-preserved : goal.loop-k-preserved
loop-k-preserved c =
    let s = c.args.system.now in
    let k = c.loop-k.k in
    let v = c.loop-k.invariant in
    let el : length c.groups-groups.result.now ≡ length s.groups = ap length c.groups-groups.ensures.value in
    let l : k < length s.groups = omega (arith, c.loop-k-test.true, el) in
    let w : Water = c.group_water-water.result in
    let at : c.get.result ≡ get_or c.args.config.now (length s.thermal + k) 0 = c.get.ensures.value ∙ ap (λ n. get_or c.args.config.now (n + k) 0) (ap length c.thermal-thermal.ensures.value) in
    let g = group_is s k c.groups-groups.result.now c.index-groups-k.result c.groups-groups.ensures.value l in
    let is : w ≡ group_water s (get_or s.groups k no_group) ((get_or s.groups k no_group).existing + c.get.result) c.args.period 0 =
    c.group_water-water.ensures.value ∙ ap (λ (x : Group). group_water s (get_or s.groups k no_group) (x.existing + c.get.result) c.args.period 0) g in
    let m = group_more s c.args.config.now c.args.period k c.get.result w c.requires.fits l at is in
    record { value = omega (arith, v.value, m); small = omega (arith, v.small, c.group_water-water.ensures.base, c.group_water-water.ensures.peak) }

pub returns-clause-value : goal.returns-clause-value
returns-clause-value c =
    let s = c.args.system.now in
    let z = zip s.groups (drop (length s.thermal) c.args.config.now) in
    c.loop-k.invariant.value ∙ ap (sum_by (λ (e : Group × ℕ). group_mw s c.args.period e.0 e.1)) (take_all c.loop-k.k z (omega (arith, length-zip s.groups (drop (length s.thermal) c.args.config.now), c.loop-k-test.false, ap length c.groups-groups.ensures.value)))
