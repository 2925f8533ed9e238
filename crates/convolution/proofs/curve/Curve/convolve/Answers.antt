use Rattle.std.proofs.Common.{arith}
use Rattle.std.proofs.lemmas.Grind.{common_steps}
use Rattle.convolution.proofs.RoundingSteps.{IsWithin-step}
use Rattle.convolution.proofs.curve.Curve.convolve.Goals as goal

pub returns-clause-rounding : goal.returns-clause-rounding
returns-clause-rounding c k base parts within =
    IsWithin-step _ _ base (record { capacity = c.args.capacity; rate = c.args.outage }) parts k c.requires.rate (grind (arith, common_steps)) within
