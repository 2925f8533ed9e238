use Rattle.std.proofs.Common.{rules, ◌≡◌, [], ◌∙◌, List, Option, ℕ, Some, length, map, replicate, subst}
use Rattle.best_plans.specs.Best.{IsRanking}
use Rattle.best_plans.specs.Offers.{AreOffers}
use Rattle.best_plans.specs.Reach.{onward}
use Rattle.best_plans.specs.declared.ranked.Reached.{Reached}
use Rattle.best_plans.proofs.FirstPlans.{first_is, ranking_is}
use Rattle.best_plans.proofs.ranking.best.Goals.{After-drop-reached-2}
use Rattle.best_plans.proofs.ranking.best.Goals as goal

ranking_of : (c : After-drop-reached-2) → IsRanking c.args.table.now c.args.k c.in_ok-onward_ways.field-0.items
ranking_of c =
    let rs = c.in_ok-reached.reached.items in
    let added = c.in_ok-nothing.nothing.items in
    let os = c.in_ok-offers.offers.items in
    let nothing : added ≡ replicate (length rs) (Some 0) = search rules in
    let h : AreOffers c.args.k rs added (length rs) 0 os =
    subst (λ (x : List (Option ℕ)). AreOffers c.args.k rs x (length rs) 0 os) c.deref-2.ensures.value (subst (λ (x : List Reached). AreOffers c.args.k x c.deref-2.result.now (length x) 0 os) c.deref.ensures.value c.in_ok-offers.ensures) in
    let is : c.in_ok-onward_ways.field-0.items ≡ map (onward rs []) os =
    c.in_ok-onward_ways.ensures ∙ (λ i. map (onward (c.deref-3.ensures.value i) []) (c.deref-4.ensures.value i)) in
    ranking_is c.args.table.now c.args.k rs added os c.in_ok-onward_ways.field-0.items c.in_ok-reached.ensures.reached nothing h is

pub returns-clause-ranking : goal.returns-clause-ranking
returns-clause-ranking c = ranking_of c

pub returns-clause-first : goal.returns-clause-first
returns-clause-first c = first_is c.args.table.now c.args.k c.in_ok-onward_ways.field-0.items c.requires.some (ranking_of c)
