use Rattle.std.proofs.Common.{ℕ, ◌<◌, ◌≤◌}
use Rattle.best_plans.specs.Offers.{offer_at}
use Rattle.best_plans.proofs.offers.place_of.Given as goal

abbrev pub invariant-loop-i : goal.invariant-loop-i
invariant-loop-i l = (i : ℕ) → i < l.i → (offer_at l.kept i).cost ≤ l.cost
