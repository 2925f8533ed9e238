use Rattle.sim_sweep.proofs.TogetherSteps.{counts_together}
use Rattle.sim_sweep.proofs.laws.counts_rise_together.Goals as goal

pub returns : goal.returns
returns c = counts_together
