use Rattle.best_plans.proofs.OneRanking.{one_ranking}
use Rattle.best_plans.proofs.ranking.rankings_are_one.Goals as goal

pub returns : goal.returns
returns c = one_ranking
