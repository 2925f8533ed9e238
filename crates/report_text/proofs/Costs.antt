-- The costs of a solution have at most 18 digits.
use Rattle.std.proofs.Common.{ℕ, suc, ◌+◌, ◌*◌, ◌^◌, ◌<◌, ◌≤◌, List, [], ◌∷◌, length, get_or, All, Option, None, sym, ap, subst, ◌∙◌, arith, ⊎_elim}
use Rattle.std.proofs.lemmas.Bool.{cases_lt}
use Rattle.std.proofs.lemmas.List.{get_or_past}
use Rattle.std.proofs.lemmas.List.Elements.{All-head, All-tail}
use Rattle.std.proofs.lemmas.Option.{none-some}
use Rattle.cost_terms.specs.Cost.{nothing_built, step_cost}
use Rattle.cost_terms.specs.CostData.{IsEconomy}
use Rattle.cost_terms.specs.Table.{IsEntry, IsTable, Table, cost_from, plan_cost}
use Rattle.cost_terms.specs.declared.entries.Scored.{Scored}
use Rattle.cost_terms.specs.declared.prices.CostData.{CostData}
use Rattle.plan_program.specs.Chosen.{IsOutcome}
use Rattle.plan_program.specs.CostToCome.{AreCostsToCome, AreSmall, IsCostToCome, IsLeastCost}
use Rattle.plan_program.specs.Plans.{IsAdmissible, entry_at, layer_at}
use Rattle.plan_program.specs.declared.solved.Outcome.{Outcome}
use Rattle.plan_program.specs.declared.solved.Outcome.TheVariants.{Plan, Infeasible}
use Rattle.report_text.proofs.Heads.{IsSmallOutcome}
use Rattle.report_text.proofs.Layers.{layers_few, plan_entries}
use Rattle.report_text.proofs.YearCosts.{step_small}

years_small : (c : CostData) (year : ℕ) (before : List ℕ) (plan : List Scored) → IsEconomy c → year + length plan ≤ 31 → All (IsEntry c) plan → cost_from c year before plan ≤ 33000000000000000 * length plan
years_small c year before [] v few h = omega arith
years_small c year before (e ∷ es) v few h =
    let one = All-head (IsEntry c) e es h in
    let first = step_small c year before e.config e.row v (omega (arith, few)) one.fits one.row in
    let rest = years_small c (year + 1) e.config es v (omega (arith, few)) (All-tail (IsEntry c) e es h) in
    added (step_cost c year before e.config e.row) (cost_from c (year + 1) e.config es) (length es) first rest
  where
    added : (x y n : ℕ) → x ≤ 33000000000000000 → y ≤ 33000000000000000 * n → x + y ≤ 33000000000000000 * suc n
    added x y n a b = omega (arith, a, b)

plan_small : (t : Table) → IsTable t → (plan : List Scored) → IsAdmissible t plan → plan_cost t.economy plan < 10 ^ 18
plan_small t v plan a =
    omega (arith, years_small t.economy 1 (nothing_built t.economy) plan v.economy (omega (arith, a.years, layers_few t v)) (plan_entries t v plan a), a.years, layers_few t v)

least_small : (t : Table) → IsTable t → (years : ℕ) (e : Scored) (cost : ℕ) → IsLeastCost t years e cost → cost < 10 ^ 18
least_small t v years e cost l = subst (λ n. n < 10 ^ 18) l.costs (plan_small t v l.plan l.to.admissible)

pub come_small : (t : Table) (come : List (List (Option ℕ))) → IsTable t → AreCostsToCome t come → AreSmall come
come_small t come v a k i cost e =
    ⊎_elim
    (λ year. ⊎_elim
    (λ within. least_small t v (k + 1) (entry_at (layer_at t k) i) cost (subst (λ (o : Option ℕ). IsCostToCome t (k + 1) (entry_at (layer_at t k) i) o) e (a.each k i year within)))
    (λ past. absurd (none-some cost (sym (get_or_past (get_or come k []) i None (omega (arith, past, a.entries k year))) ∙ e)))
    (cases_lt i (length (layer_at t k))))
    (λ past. absurd (none-some cost (sym (ap (λ (xs : List (Option ℕ)). get_or xs i None) (get_or_past come k [] (omega (arith, past, a.years)))) ∙ e)))
    (cases_lt k (length t.layers))

pub outcome_small : (t : Table) → IsTable t → (o : Outcome) → IsOutcome t o → IsSmallOutcome o
outcome_small t v (Plan chosen total) p = subst (λ n. n < 10 ^ 18) (sym p.costs) (plan_small t v p.plan p.is_chosen.admissible)
outcome_small t v (Infeasible year) p = tt
