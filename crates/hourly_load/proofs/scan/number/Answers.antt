use Rattle.std.proofs.Common.{arith}
use Rattle.deck_lines.proofs.Bytewise.{few_digits}
use Rattle.hourly_load.proofs.scan.number.Goals as goal

pub overflow_mul-n : goal.overflow_mul-n
overflow_mul-n c = omega (arith, few_digits c.loop-digit.n c.loop-digit.digit-index c.loop-digit.invariant.small (omega arith))

pub overflow_add-n : goal.overflow_add-n
overflow_add-n c = omega (arith, few_digits c.loop-digit.n c.loop-digit.digit-index c.loop-digit.invariant.small (omega arith))
