use Rattle.std.proofs.Common.{◌∙◌, ap}
use Rattle.load_curves.specs.LoadCurve.{load_curve}
use Rattle.load_curves.proofs.FillSteps.{load_curve-at}
use Rattle.load_curves.proofs.ShapePoints.{load-most}
use Rattle.load_curves.proofs.points.curve_at.Goals as goal

pub returns-then-load-points-clause-value : goal.returns-then-load-points-clause-value
returns-then-load-points-clause-value c =
    let is = c.points-points.ensures.value in
    let most = load-most c.points-points.result.now c.loop-i.i (rw is c.points-points.ensures.range) c.loop-i-test.true in
    let v = load_curve-at c.points-points.result.now c.args.peak c.args.step c.args.x c.loop-i.i (rw is c.requires.shape) c.loop-i.auto.i c.loop-i-test.true most c.loop-i.invariant c.if-load-points.true in
    c.share_between.ensures.value ∙ (v ∙ ap (λ points. load_curve c.args.peak c.args.step points c.args.x) is)
