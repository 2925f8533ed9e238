use Rattle.best_plans.specs.Offers.{AreOffers}
use Rattle.best_plans.proofs.offers.first_offers.Given as goal

abbrev pub invariant-loop-place : goal.invariant-loop-place
invariant-loop-place l = AreOffers l.k l.reached l.added l.place 0 l.kept.items
