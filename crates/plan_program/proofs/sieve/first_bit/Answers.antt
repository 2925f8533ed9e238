use Rattle.std.proofs.Common.{◌≢◌, ◌<◌, ℕ, bit_and, ◌*◌, ◌^◌, ◌%◌, arith}
use Rattle.plan_program.proofs.SieveBits.{first_left, none_left}
use Rattle.plan_program.proofs.sieve.first_bit.Goals.{Else-rest-eq0}
use Rattle.plan_program.proofs.sieve.first_bit.Goals as goal

pub returns-then-rest-eq0-clause-unset : goal.returns-then-rest-eq0-clause-unset
returns-then-rest-eq0-clause-unset c = λ i from b. none_left c.args.mask c.args.skip i c.requires c.if-rest-eq0.true from b

positive : (n : ℕ) → n ≢ 0 → 0 < n
positive n h = omega (arith, h)

some : (c : Else-rest-eq0) → 0 < bit_and c.args.mask (18446744073709551615 * 2 ^ c.args.skip % 18446744073709551616)
some c = positive _ c.if-rest-eq0.false

pub returns-clause-later : goal.returns-clause-later
returns-clause-later c = (first_left c.args.mask c.args.skip c.requires c.ranges.mask.fits (some c)).0

pub returns-clause-unset : goal.returns-clause-unset
returns-clause-unset c = (first_left c.args.mask c.args.skip c.requires c.ranges.mask.fits (some c)).1
