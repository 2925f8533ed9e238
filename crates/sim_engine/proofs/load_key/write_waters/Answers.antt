use Rattle.std.proofs.Common.{◌≡◌, ◌<◌, ◌++◌, [], ◌∷◌, length, take, sym, ap, ◌∙◌, arith}
use Rattle.std.proofs.lemmas.List.{take_all, take_more, take_more_set}
use Rattle.year_system.specs.Capacity.{no_water}
use Rattle.sim_engine.specs.Curves.{waters}
use Rattle.sim_engine.proofs.WaterSteps.{length-waters}
use Rattle.sim_engine.proofs.load_key.write_waters.Goals as goal

pub loop-k-preserved : goal.loop-k-preserved
loop-k-preserved c =
    let s = c.args.system.now in
    let k = c.loop-k.k in
    let ws = waters s c.args.config.now c.args.period c.args.condition in
    let n : length ws ≡ length s.groups = length-waters s c.args.config.now c.args.period c.args.condition c.requires.fits in
    let g : length c.groups-count.result.now ≡ length s.groups = ap length c.groups-count.ensures.value in
    let h : k < length ws = omega (arith, n, g, c.loop-k-test.true) in
    let room : k < length c.loop-k.room = omega (arith, n, g, h, c.requires.room, c.loop-k.auto.room) in
    take_more_set c.loop-k.room k c.water_of.result room
    ∙ ((λ i. c.loop-k.invariant i ++ c.water_of.ensures.value i ∷ []) ∙ sym (take_more ws k no_water h))

pub returns-clause-value : goal.returns-clause-value
returns-clause-value c =
    let s = c.args.system.now in
    let k = c.loop-k.k in
    let ws = waters s c.args.config.now c.args.period c.args.condition in
    let n : length ws ≡ length s.groups = length-waters s c.args.config.now c.args.period c.args.condition c.requires.fits in
    let g : length c.groups-count.result.now ≡ length s.groups = ap length c.groups-count.ensures.value in
    let e : k ≡ length c.groups-count.result.now = omega (arith, c.loop-k-test.false, c.loop-k.auto.k-end) in
    ap (λ j. take j c.loop-k.room) (sym e) ∙ (c.loop-k.invariant ∙ take_all k ws (omega (arith, n, g, e)))
