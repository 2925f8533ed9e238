use Rattle.best_plans.specs.Offers.{AreOffers}
use Rattle.best_plans.proofs.offers.offer_ways.Given as goal

abbrev pub invariant-loop-rank : goal.invariant-loop-rank
invariant-loop-rank l = AreOffers l.k l.reached l.added l.place l.rank l.kept.items
