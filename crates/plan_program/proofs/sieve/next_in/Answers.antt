use Rattle.std.proofs.Common.{◌<◌, arith}
use Rattle.plan_program.proofs.SieveBits.{has_bits, not_skipped}
use Rattle.plan_program.proofs.sieve.next_in.Goals as goal

pub returns-clause-skipped : goal.returns-clause-skipped
returns-clause-skipped c = λ i from b within g.
    let small : i < 64 = omega (arith, b, c.first_bit.ensures.within) in
    not_skipped c.mask_of.result i (c.first_bit.ensures.unset i from b) (c.mask_of.ensures i small (has_bits c.args.starts.now c.args.base c.args.block.now c.args.to.now i c.requires.block small within g))
