use Rattle.std.proofs.Common.{◌+◌, ◌*◌, arith}
use Rattle.plan_program.proofs.SieveBits.{NoneFrom, none_more}
use Rattle.plan_program.proofs.sieve.next.Goals.{After-next_in-bit}
use Rattle.plan_program.proofs.sieve.next.Goals as goal

more : (c : After-next_in-bit) → NoneFrom c.args.starts.now c.args.to.now c.args.from (64 * c.loop-w.w + c.next_in-bit.result)
more c = none_more c.args.starts.now c.args.to.now c.args.from c.loop-w.w c.next_in-bit.result c.loop-w.invariant (λ j d. c.next_in-bit.ensures.skipped j (omega (arith, d, c.max.ensures)))

pub returns-then-bit-lt64-clause-skipped : goal.returns-then-bit-lt64-clause-skipped
returns-then-bit-lt64-clause-skipped c = λ i from b g. more c.before.before i from (omega (arith, b, c.min.ensures)) (omega (arith, b, c.min.ensures)) g

pub loop-w-preserved : goal.loop-w-preserved
loop-w-preserved c = λ i from b within g. more c.before i from (omega (arith, b, c.if-bit-lt64.false, c.next_in-bit.ensures.within)) within g
