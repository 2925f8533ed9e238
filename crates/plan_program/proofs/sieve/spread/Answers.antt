use Rattle.std.proofs.Common.{arith}
use Rattle.plan_program.proofs.SieveBits.{spreads_more}
use Rattle.plan_program.proofs.sieve.spread.Goals as goal

pub loop-v-preserved : goal.loop-v-preserved
loop-v-preserved c = spreads_more c.args.row.now c.loop-v.row c.loop-v.v (omega arith) (omega (arith, c.loop-v-test.true, c.loop-v.invariant.counts)) c.loop-v.invariant
