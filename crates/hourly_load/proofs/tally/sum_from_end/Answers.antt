use Rattle.std.proofs.Common.{◌-◌, arith}
use Rattle.std.proofs.lemmas.Grind.{common_steps}
use Rattle.hourly_load.proofs.Counting.{sum-back, sum-drop-le, sums-more}
use Rattle.hourly_load.proofs.tally.sum_from_end.Goals as goal

pub overflow_add-sum : goal.overflow_add-sum
overflow_add-sum c =
    let i = c.loop-x.invariant in
    let e = sum-back c.args.counts.now c.loop-x.counts c.loop-x.x c.loop-x.sum c.loop-x-test.true i.within i.len i.so_far i.kept in
    omega (arith, e, sum-drop-le c.args.counts.now (c.loop-x.x - 1))

pub loop-x-preserved : goal.loop-x-preserved
loop-x-preserved c =
    let i = c.loop-x.invariant in
    let e = sum-back c.args.counts.now c.loop-x.counts c.loop-x.x c.loop-x.sum c.loop-x-test.true i.within i.len i.so_far i.kept in
    record {
      len = grind (arith, common_steps);
      within = grind (arith, common_steps);
      so_far = e;
      done = sums-more c.args.counts.now c.loop-x.counts c.loop-x.x _ c.loop-x-test.true i.within e i.done;
      kept = grind (arith, common_steps);
    }
