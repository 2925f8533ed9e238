use Rattle.std.proofs.Common.{◌≡◌, ℕ, ◌+◌, ◌-◌, ◌≤◌, length, arith, ◌∙◌}
use Rattle.wasp_fixed.specs.Curves.{cell}
use Rattle.plant_data.specs.Shapes.{share_at}
use Rattle.load_curves.specs.LoadCurve.{load_curve}
use Rattle.load_curves.proofs.FillSteps.{cells_of_peak, filled_more, filled_whole, load_curve-falls, load_curve-most}
use Rattle.load_curves.proofs.ShapePoints.{share-most}
use Rattle.load_curves.proofs.fill.fill_curve.Goals as goal

pub loop-i-preserved : goal.loop-i-preserved
loop-i-preserved c =
    let e : c.loop-i.i + 1 - 1 ≡ c.loop-i.i = omega arith in
    let is = c.points-points.ensures.value in
    record {
      room = c.push_between.ensures.room ∙ c.loop-i.invariant.room;
      len = rw e c.push_between.ensures.len;
      value = filled_more c.points-points.result.now c.args.peak c.args.step c.loop-i.i c.loop-i.curve.cells c.push_between.new.curve.cells (rw is c.requires.shape) c.requires.step c.loop-i.auto.i c.loop-i-test.true c.loop-i.invariant.len c.push_between.ensures.len c.loop-i.invariant.value c.push_between.ensures.kept c.push_between.ensures.value;
    }

-- the cells at every x
value_of : (c : goal.After-loop-i) → (x : ℕ) → cell c.loop-i.curve.cells x ≡ load_curve c.args.peak c.args.step c.args.shape.now x
value_of c =
    let is = c.points-points.ensures.value in
    let two : 2 ≤ length c.points-points.result.now = rw is c.points-points.ensures.low in
    let n : c.loop-i.i ≡ length c.points-points.result.now = omega (arith, c.loop-i.auto.i-end (omega (arith, two))) in
    let len = c.loop-i.invariant.len ∙ cells_of_peak c.points-points.result.now c.args.peak c.args.step c.loop-i.i (rw is c.requires.shape) c.requires.step n in
    rw is at (filled_whole c.points-points.result.now c.args.peak c.args.step c.loop-i.curve.cells c.requires.step len c.loop-i.invariant.value)

pub returns-clause-value : goal.returns-clause-value
returns-clause-value c = value_of c

pub returns-clause-never_rises : goal.returns-clause-never_rises
returns-clause-never_rises c x y le =
    rw (value_of c x, value_of c y) (load_curve-falls c.args.shape.now c.args.peak c.args.step x y c.requires.shape le)

pub returns-clause-at_most_one : goal.returns-clause-at_most_one
returns-clause-at_most_one c x =
    let most : share_at c.args.shape.now 0 ≤ 10000 = share-most c.args.shape.now 0 c.points-points.ensures.range (omega (arith, c.points-points.ensures.low)) in
    rw (value_of c x) (load_curve-most c.args.shape.now c.args.peak c.args.step x c.requires.shape most)
