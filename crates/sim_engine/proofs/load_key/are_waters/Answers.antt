use Rattle.std.proofs.Common.{◌≡◌, ◌<◌, ◌++◌, [], ◌∷◌, length, get_or, sym, ap, ◌∙◌, arith, refl}
use Rattle.std.proofs.lemmas.List.{take_all, take_more}
use Rattle.year_system.specs.Capacity.{no_water}
use Rattle.sim_engine.specs.Curves.{waters}
use Rattle.sim_engine.proofs.WaterSteps.{length-waters}
use Rattle.sim_engine.proofs.load_key.are_waters.Goals as goal

pub loop-k-preserved : goal.loop-k-preserved
loop-k-preserved c =
    let s = c.args.system.now in
    let held = c.args.held.now in
    let k = c.loop-k.k in
    let ws = waters s c.args.config.now c.args.period c.args.condition in
    let n : length ws ≡ length s.groups = length-waters s c.args.config.now c.args.period c.args.condition c.requires.fits in
    let e : length held ≡ length ws = omega (arith, n, c.if-held-groups.false, ap length c.groups.ensures.value) in
    let h : k < length held = omega (arith, c.loop-k-test.true) in
    let w : get_or held k no_water ≡ get_or ws k no_water = c.if-not-is_water.ensures refl ∙ c.water_of.ensures.value in
    take_more held k no_water h ∙ ((λ i. c.loop-k.invariant i ++ w i ∷ []) ∙ sym (take_more ws k no_water (omega (arith, h, e))))

pub returns : goal.returns
returns c = λ same.
    let s = c.args.system.now in
    let held = c.args.held.now in
    let k = c.loop-k.k in
    let ws = waters s c.args.config.now c.args.period c.args.condition in
    let n : length ws ≡ length s.groups = length-waters s c.args.config.now c.args.period c.args.condition c.requires.fits in
    let e : length held ≡ length ws = omega (arith, n, c.if-held-groups.false, ap length c.groups.ensures.value) in
    sym (take_all k held (omega (arith, c.loop-k-test.false))) ∙ (c.loop-k.invariant ∙ take_all k ws (omega (arith, e, c.loop-k-test.false)))
