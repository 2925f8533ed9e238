use Rattle.std.proofs.Common.{◌≡◌, ◌+◌, ◌*◌, ◌<◌, length, get_or, ap, ◌∙◌, arith}
use Rattle.plant_data.specs.declared.water.Group.{Group}
use Rattle.plant_data.specs.declared.water.Water.{Water}
use Rattle.year_system.specs.Capacity.{no_group, water_at}
use Rattle.year_system.proofs.WaterSteps.{group_is, place_within, read_is, water_most, sum_range_more}
use Rattle.year_system.proofs.system.YearSystem.group_water.Goals as goal

pub bounds-table-project : goal.bounds-table-project
bounds-table-project c =
    let s = c.args.self.now in
    let g : Group = get_or s.groups c.args.k no_group in
    let v = c.groups-groups.ensures.valid.groups.1 c.args.k no_group c.requires.within in
    let j = c.loop-project.project in
    let is = group_is s c.args.k c.groups-groups.result.now c.index-groups-k.result c.groups-groups.ensures.value c.requires.within in
    let table : c.as_slice-table.result.now ≡ g.water = c.as_slice-table.ensures ∙ ap (λ (x : Group). x.water) is in
    let below : j < g.existing + g.greatest = omega (arith, c.loop-project-test.true, c.loop-project.auto.project-end, c.requires.projects) in
    let e : length c.as_slice-table.result.now ≡ (g.existing + g.greatest) * length s.loads * length s.weights = ap length table ∙ v.water in
    rw e (rw c.loads-periods.ensures.value (rw c.weights-conditions.ensures.value (place_within j (length s.loads) c.args.period (length s.weights) c.args.condition (g.existing + g.greatest) below c.requires.period c.requires.condition)))

pub loop-project-preserved : goal.loop-project-preserved
loop-project-preserved c =
    let s = c.args.self.now in
    let g : Group = get_or s.groups c.args.k no_group in
    let j = c.loop-project.project in
    let v = c.loop-project.invariant in
    let is = group_is s c.args.k c.groups-groups.result.now c.index-groups-k.result c.groups-groups.ensures.value c.requires.within in
    let table : c.as_slice-table.result.now ≡ g.water = c.as_slice-table.ensures ∙ ap (λ (x : Group). x.water) is in
    let below : j < g.existing + g.greatest = omega (arith, c.loop-project-test.true, c.loop-project.auto.project-end, c.requires.projects) in
    let r = read_is s g j c.args.period c.args.condition c.loads-periods.result.now c.weights-conditions.result.now c.as_slice-table.result.now c.loads-periods.ensures.value c.weights-conditions.ensures.value table in
    let m = water_most s g j c.args.period c.args.condition (c.groups-groups.ensures.valid.groups.1 c.args.k no_group c.requires.within) below c.requires.period c.requires.condition in
    let base = ap (λ (w : Water). w.base) r in
    let peak = ap (λ (w : Water). w.peak) r in
    let energy = ap (λ (w : Water). w.energy) r in
    record {
      base_is = omega (arith, v.base_is, base, sum_range_more (λ k. (water_at s g k c.args.period c.args.condition).base) j);
      peak_is = omega (arith, v.peak_is, peak, sum_range_more (λ k. (water_at s g k c.args.period c.args.condition).peak) j);
      energy_is = omega (arith, v.energy_is, energy, sum_range_more (λ k. (water_at s g k c.args.period c.args.condition).energy) j);
      base_most = omega (arith, v.base_most, base, m.0);
      peak_most = omega (arith, v.peak_most, peak, m.1);
      energy_most = omega (arith, v.energy_most, energy, m.2);
    }

pub returns-clause-value : goal.returns-clause-value
returns-clause-value c =
    let v = c.loop-project.invariant in
    let e : c.loop-project.project ≡ c.args.projects = omega (arith, c.loop-project-test.false, c.loop-project.auto.project-end) in
    rw (← e) (λ i. record { base = v.base_is i; peak = v.peak_is i; energy = v.energy_is i })
