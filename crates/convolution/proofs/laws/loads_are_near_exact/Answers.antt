use Rattle.convolution.proofs.RoundingSteps.{equivalent_load-IsWithin}
use Rattle.convolution.proofs.laws.loads_are_near_exact.Goals as goal

pub returns : goal.returns
returns c = equivalent_load-IsWithin
