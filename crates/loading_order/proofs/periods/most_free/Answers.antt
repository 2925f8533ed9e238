use Rattle.std.proofs.Common.{arith}
use Rattle.loading_order.proofs.FirstBest.{freest_is}
use Rattle.loading_order.proofs.periods.most_free.Goals as goal

pub returns-clause-value : goal.returns-clause-value
returns-clause-value c = freest_is c.args.periods.now c.loop-place.place c.loop-place.best c.loop-place.invariant (omega (arith, c.loop-place.auto.place-end, c.loop-place-test.false, c.requires.some))
