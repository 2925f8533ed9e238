use Rattle.std.proofs.Common.{◌≡◌, ◌∷◌, [], ◌∙◌, ◌++◌, List, ℕ, ap, subst}
use Rattle.cost_terms.specs.Cost.{nothing_built}
use Rattle.cost_terms.specs.CostData.{Fits}
use Rattle.cost_terms.specs.declared.prices.CostData.{CostData}
use Rattle.best_plans.proofs.Reaching.{start_reached}
use Rattle.best_plans.proofs.reach.start.Goals as goal

pub returns : goal.returns
returns c =
    let t = c.args.table.now in
    let economy : c.economy.result.now ≡ t.economy = c.economy.ensures.value in
    let nothing : c.nothing_built.result ≡ nothing_built t.economy = c.nothing_built.ensures.value ∙ ap nothing_built economy in
    let none : c.new-2.result ≡ [] = c.new-2.ensures ∙ c.new.ensures.items in
    let way : c.push.new.self.items ≡ record { configs = []; total = 0 } ∷ [] =
    c.in_ok-push.ensures.items ∙ ((λ i. c.new-ways.ensures.items i ++ record { configs = none i; total = 0 } ∷ [])) in
    let ways : c.new-3.result ≡ record { configs = []; total = 0 } ∷ [] = c.new-3.ensures ∙ way in
    let is : c.push-2.new.self.items ≡ record { config = nothing_built t.economy; ways = record { configs = []; total = 0 } ∷ [] } ∷ [] =
    c.in_ok-push-2.ensures.items ∙ (λ i. c.new-reached.ensures.items i ++ record { config = nothing i; ways = ways i } ∷ []) in
    start_reached t c.args.k c.push-2.new.self.items c.requires is (subst (λ (x : CostData). Fits x (nothing_built t.economy)) economy (subst (λ (x : List ℕ). Fits c.economy.result.now x) nothing c.nothing_built.ensures.fits))
