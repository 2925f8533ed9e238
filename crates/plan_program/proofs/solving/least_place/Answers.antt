use Rattle.std.proofs.Common.{◌≡◌, length, arith, subst}
use Rattle.plan_program.proofs.Least.{LeastSoFar, least_done, least_step}
use Rattle.plan_program.proofs.solving.least_place.Goals as goal

pub loop-i-preserved : goal.loop-i-preserved
loop-i-preserved c = record {
  within = c.lesser_place-place.ensures.within;
  least = least_step c.args.come.now c.loop-i.i c.loop-i.place c.lesser_place-place.result c.loop-i.invariant.least c.lesser_place-place.ensures.less c.lesser_place-place.ensures.same;
}

pub returns : goal.returns
returns c =
    let whole : c.loop-i.i ≡ length c.args.come.now = omega (arith, c.loop-i-test.false, c.loop-i.auto.i-end) in
    least_done c.args.come.now c.loop-i.place (subst (λ n. LeastSoFar c.args.come.now n c.loop-i.place) whole c.loop-i.invariant.least) c.requires
