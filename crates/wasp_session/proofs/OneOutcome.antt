-- A table has one outcome, as part of its one solution.
use Rattle.std.proofs.Common.{◌≡◌, ◌∙◌, ap, sym, ℕ}
use Rattle.cost_terms.specs.Table.{Table}
use Rattle.plan_program.specs.Chosen.{IsOutcome}
use Rattle.plan_program.specs.declared.solved.Outcome.{Outcome}
use Rattle.plan_program.specs.declared.solved.Outcome.TheVariants.{Plan, Infeasible}
use Rattle.deck_tellings.proofs.OnePlan.{no_plan, one_chosen, one_year}

pub one_outcome : (t : Table) (x y : Outcome) → IsOutcome t x → IsOutcome t y → x ≡ y
one_outcome t (Plan xs total) (Plan ys other) a b =
    let one = one_chosen t a.plan b.plan a.is_chosen b.is_chosen in
    let shown : xs ≡ ys = a.shown ∙ (one.0 ∙ sym b.shown) in
    let costs : total ≡ other = a.costs ∙ (one.1 ∙ sym b.costs) in
    λ i. Plan (shown i) (costs i)
one_outcome t (Plan xs total) (Infeasible year) a b = absurd (no_plan t a.plan year a.is_chosen b)
one_outcome t (Infeasible year) (Plan ys total) a b = absurd (no_plan t b.plan year b.is_chosen a)
one_outcome t (Infeasible x) (Infeasible y) a b = ap (λ (n : ℕ). Infeasible n) (one_year t x y a b)
