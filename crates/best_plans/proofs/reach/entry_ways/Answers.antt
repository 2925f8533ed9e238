use Rattle.std.proofs.Common.{◌≡◌, ◌+◌, ◌∷◌, [], ◌∙◌, List, Option, ℕ, length, map, ap, subst}
use Rattle.cost_terms.specs.declared.prices.CostData.{CostData}
use Rattle.best_plans.specs.Offers.{AreOffers}
use Rattle.best_plans.specs.Reach.{AreAdditions, onward}
use Rattle.best_plans.specs.declared.offers.Offer.{Offer}
use Rattle.best_plans.proofs.Reaching.{entry_after, entry_low}
use Rattle.best_plans.proofs.reach.entry_ways.Goals as goal

pub returns-clause-value : goal.returns-clause-value
returns-clause-value c =
    let rs = c.args.reached.now in
    let e = c.args.entry.now in
    let added = c.in_ok-added.added.items in
    let os = c.in_ok-offers.offers.items in
    let a : AreAdditions c.args.table.now.economy (c.args.year + 1) rs e added = subst (λ (x : CostData). AreAdditions x (c.args.year + 1) rs e added) c.economy.ensures.value c.in_ok-added.ensures.value in
    let h : AreOffers c.args.k rs added (length rs) 0 os = subst (λ (x : List (Option ℕ)). AreOffers c.args.k rs x (length rs) 0 os) c.deref.ensures.value c.in_ok-offers.ensures in
    let is : c.new.result ≡ map (onward rs (e.config ∷ [])) os = c.new.ensures ∙ (c.in_ok-ways.ensures ∙ ap (λ (x : List Offer). map (onward rs (e.config ∷ [])) x) c.deref-2.ensures.value) in
    entry_after c.args.table.now c.args.k c.args.year rs e added os c.new.result c.economy.ensures.valid c.requires.year c.requires.entry c.requires.reached a h is

pub returns-clause-low : goal.returns-clause-low
returns-clause-low c =
    let rs = c.args.reached.now in
    let e = c.args.entry.now in
    let added = c.in_ok-added.added.items in
    let os = c.in_ok-offers.offers.items in
    let h : AreOffers c.args.k rs added (length rs) 0 os = subst (λ (x : List (Option ℕ)). AreOffers c.args.k rs x (length rs) 0 os) c.deref.ensures.value c.in_ok-offers.ensures in
    let is : c.new.result ≡ map (onward rs (e.config ∷ [])) os = c.new.ensures ∙ (c.in_ok-ways.ensures ∙ ap (λ (x : List Offer). map (onward rs (e.config ∷ [])) x) c.deref-2.ensures.value) in
    entry_low c.args.k c.args.year 0 rs e added os c.new.result c.requires.reached.low c.in_ok-added.ensures.small h is
