use Rattle.std.proofs.Common.{◌≡◌, ℕ, ◌+◌, ◌<◌, [], ◌∷◌, ◌++◌, length, get_or, arith, ◌∙◌, ap, subst, List, Option, None}
use Rattle.std.proofs.lemmas.List.{get_or_default}
use Rattle.cost_terms.specs.Cost.{nothing_built}
use Rattle.cost_terms.specs.CostData.{Fits}
use Rattle.cost_terms.specs.declared.entries.Scored.{Scored}
use Rattle.cost_terms.specs.declared.prices.CostData.{CostData}
use Rattle.plan_program.specs.Plans.{entry_at, layer_at}
use Rattle.plan_program.specs.Steps.{AreNumbered, IsRaised}
use Rattle.plan_program.specs.declared.come.Reached.{Reached}
use Rattle.plan_program.proofs.Forward.{come_none, reached_start, year_step}
use Rattle.plan_program.proofs.come.costs_to_come.Goals as goal

pub loop-k-init : goal.loop-k-init
loop-k-init c =
    let t = c.args.table.now in
    let economy : c.economy-economy.result.now ≡ t.economy = c.economy-economy.ensures.value in
    let nothing : c.nothing_built.result ≡ nothing_built t.economy = c.nothing_built.ensures.value ∙ ap nothing_built economy in
    let start : c.in_ok-reached.reached.items ≡ record { config = nothing_built t.economy; cost = 0 } ∷ [] =
    c.in_ok-reached.ensures.items ∙ λ i. record { config = nothing i; cost = 0 } ∷ [] in
    record {
      reached = reached_start t c.in_ok-reached.reached.items start (subst (λ (e : CostData). Fits e (nothing_built t.economy)) economy (subst (λ (x : List ℕ). Fits c.economy-economy.result.now x) nothing c.nothing_built.ensures.fits));
      come = rw c.new-years.ensures.items (come_none t);
    }

pub loop-k-preserved : goal.loop-k-preserved
loop-k-preserved c =
    let t = c.args.table.now in
    let k = c.loop-k.k in
    let layers : c.layers-layers.result.now ≡ t.layers = c.layers-layers.ensures.value in
    let within : k < length c.layers-layers.result.now = c.loop-k-test.true in
    let layer : c.entries-layer.result.now ≡ layer_at t k =
    c.entries-layer.ensures.value ∙ (c.index-layers-k.is ∙ (get_or_default c.layers-layers.result.now k c.index-layers-k.result [] within ∙ ap (λ (xs : List (List Scored)). get_or xs k []) layers)) in
    let raised : (i : ℕ) → i < length c.entries-layer.result.now → IsRaised t.economy (k + 1) c.loop-k.reached.items (entry_at c.entries-layer.result.now i) (get_or c.in_ok-come.come.items i None) =
    λ i b. subst (λ (e : CostData). IsRaised e (k + 1) c.loop-k.reached.items (entry_at c.entries-layer.result.now i) (get_or c.in_ok-come.come.items i None)) c.economy-economy.ensures.value
    (subst (λ (rs : List Reached). IsRaised c.economy-economy.result.now (k + 1) rs (entry_at c.entries-layer.result.now i) (get_or c.in_ok-come.come.items i None)) c.deref.ensures.value (c.in_ok-come.ensures.each i b)) in
    let numbered : AreNumbered c.entries-layer.result.now c.in_ok-come.come.items (length c.entries-layer.result.now) c.in_ok-reached-2.reached.items =
    subst (λ (xs : List (Option ℕ)). AreNumbered c.entries-layer.result.now xs (length c.entries-layer.result.now) c.in_ok-reached-2.reached.items) c.deref-in-loop-k.ensures.value c.in_ok-reached-2.ensures in
    let pushed : c.push.new.self.items ≡ c.loop-k.years.items ++ c.in_ok-come.come.items ∷ [] =
    c.in_ok-push.ensures.items ∙ ap (λ (xs : List (Option ℕ)). c.loop-k.years.items ++ xs ∷ []) c.new.ensures in
    rw pushed (year_step t k c.loop-k.reached.items c.in_ok-reached-2.reached.items c.loop-k.years.items c.entries-layer.result.now c.in_ok-come.come.items layer c.layers-layers.ensures.valid
    (omega (arith, within, ap length layers)) c.loop-k.invariant c.in_ok-come.ensures.entries raised c.in_ok-come.ensures.small numbered)
