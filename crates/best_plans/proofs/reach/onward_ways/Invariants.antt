use Rattle.std.proofs.Common.{◌≡◌, map, take}
use Rattle.best_plans.specs.Reach.{onward}
use Rattle.best_plans.proofs.reach.onward_ways.Given as goal

abbrev pub invariant-loop-offer : goal.invariant-loop-offer
invariant-loop-offer l = l.ways.items ≡ map (onward l.reached l.tail) (take l.offer-index l.offers)
