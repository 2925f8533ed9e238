use Rattle.sim_engine.proofs.CountSteps.{counts_sum}
use Rattle.sim_engine.proofs.laws.counts_are_sums.Goals as goal

pub returns : goal.returns
returns c = counts_sum
