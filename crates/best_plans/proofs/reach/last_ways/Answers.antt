use Rattle.std.proofs.Common.{ap, length, arith}
use Rattle.best_plans.proofs.Reaching.{next_reached}
use Rattle.best_plans.proofs.reach.last_ways.Goals as goal

pub loop-year-preserved : goal.loop-year-preserved
loop-year-preserved c =
    next_reached c.args.table.now c.args.k c.loop-year.year c.in_ok-reached-2.reached.items c.in_ok-reached-2.ensures.valid (omega (arith, c.loop-year-test.true, ap length c.layers-year-end.ensures.value)) c.in_ok-reached-2.ensures.entries
