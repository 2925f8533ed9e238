-- A solution, taken as a certificate, meets all conditions.
use Rattle.std.proofs.Common.{◌≡◌, ℕ, zero, suc, ◌+◌, ◌-◌, ◌<◌, ◌≤◌, List, [], ◌∷◌, length, reverse, Contains, Option, Some, None, sym, ap, ◌∙◌, arith, refl, subst, ⊎_elim, inl, inr}
use Rattle.std.proofs.lemmas.List.{length-reverse}
use Rattle.std.proofs.lemmas.Option.{none-some}
use Rattle.plant_data.specs.Configs.{IsAtMost}
use Rattle.cost_terms.specs.Cost.{nothing_built, step_cost}
use Rattle.cost_terms.specs.Table.{IsTable, Table, plan_cost}
use Rattle.cost_terms.specs.declared.entries.Scored.{Scored}
use Rattle.plan_program.specs.Chosen.{HasPlan, IsInfeasible, IsOutcome, IsPlanOf, IsSolution}
use Rattle.plan_program.specs.CostToCome.{IsCostToCome, IsLeastCost, IsPlanTo, come_at}
use Rattle.plan_program.specs.Plans.{entry_at, layer_at}
use Rattle.plan_program.specs.Ways.{IsWay, last_config, way_cost}
use Rattle.plan_program.specs.declared.solved.Outcome.{Outcome}
use Rattle.plan_program.specs.declared.solved.Outcome.TheVariants.{Plan, Infeasible}
use Rattle.plan_program.specs.declared.solved.Solved.{Solved}
use Rattle.plan_program.proofs.Forward.{contains_at, place_of}
use Rattle.plan_program.proofs.Ways.{cost_same, nothing_least, way_of, way_to}
use Rattle.plan_certificate.specs.Certificate.{AreBounds, CertData, Costs, HasPlanOver, IsAtMostLast, IsNoneIn, IsPlanOver, IsVerdict, IsVerdictOn, IsYes, NamesAccepted, NoneAfterNone, Precedes, Says}
use Rattle.plan_certificate.specs.Truth.{IsOfSolution, SolutionsAreCertified}
use Rattle.plan_certificate.specs.declared.judging.Verdict.TheVariants.{Yes}
use Rattle.plan_certificate.proofs.Aligned.{layer_within, one_entry}
use Rattle.plan_certificate.proofs.Walks.{one_plan}

-- an entry said of a table's configuration is its cost-to-come
pub said_cost : (t : Table) (s : Solved) (c : CertData) → IsTable t → IsSolution t s → IsOfSolution t s c → (k : ℕ) (e : Scored) (value : Option ℕ) → Contains (layer_at t k) e → Says c k e.config value → IsCostToCome t (k + 1) e value
said_cost t s c v sol o k e value b said =
    let p = o.only k e.config value said in
    let d = entry_at (layer_at t k) p.0 in
    let is : d ≡ e = one_entry t v k d e (contains_at (layer_at t k) p.0 p.2) b p.3 in
    let cost : IsCostToCome t (k + 1) d (come_at s.come k p.0) = sol.come.each k p.0 p.1 p.2 in
    subst (λ (x : Scored). IsCostToCome t (k + 1) x value) is (subst (λ (x : Option ℕ). IsCostToCome t (k + 1) d x) p.4 cost)

-- a way over a predecessor with its cost
pub record Arrives (t : Table) (k : ℕ) (e : Scored) (cost : ℕ) : Type 0 where
  pub way : List Scored
  pub is_way : IsWay t (e ∷ way)
  pub long : length way ≡ k
  pub costs : way_cost t.economy (e ∷ way) ≡ cost

arrives : (t : Table) (s : Solved) (c : CertData) → IsTable t → IsSolution t s → IsOfSolution t s c → (k : ℕ) (e : Scored) (before : List ℕ) (from : ℕ) → Contains (layer_at t k) e → Precedes t c k e.config before (Some from) → Arrives t k e (from + step_cost t.economy (k + 1) before e.config e.row)
arrives t s c v sol o zero e before from b (first, none) =
    let zero_from : from ≡ 0 = ap (λ (x : Option ℕ). some_or x) none in
    record {
      way = [];
      is_way = (layer_within t 0 e b, b, nothing_least t.economy e.config, tt);
      long = refl;
      costs = λ i. sym zero_from i + step_cost t.economy 1 (sym first i) e.config e.row;
    }
  where
    some_or : Option ℕ → ℕ
    some_or None = 0
    some_or (Some x) = x
arrives t s c v sol o (suc k) e before from b ((d, db, same), grows, said) = there (said_cost t s c v sol o k d (Some from) db (subst (λ (x : List ℕ). Says c k x (Some from)) (sym same) said))
  where
    there : IsLeastCost t (k + 1) d from → Arrives t (suc k) e (from + step_cost t.economy (suc k + 1) before e.config e.row)
    there l =
        let w = way_of t k d l.plan l.to in
        let whole : length (d ∷ w.before) ≡ suc k = omega (arith, w.long) in
        let cost : way_cost t.economy (d ∷ w.before) ≡ from = sym (cost_same t.economy (d ∷ w.before)) ∙ (ap (λ (xs : List Scored). plan_cost t.economy xs) (sym w.same) ∙ l.costs) in
        record {
          way = d ∷ w.before;
          is_way = (rw whole (layer_within t (suc k) e b), subst (λ n. Contains (layer_at t n) e) (sym whole) b, subst (λ (x : List ℕ). IsAtMost x e.config) (sym same) grows, w.way);
          long = whole;
          costs = λ i. cost i + step_cost t.economy (whole i + 1) (same i) e.config e.row;
        }

-- ---- the conditions

named : (t : Table) (s : Solved) (c : CertData) → IsOfSolution t s c → NamesAccepted t c
named t s c o = record {
  only = λ k config value said. let p = o.only k config value said in (entry_at (layer_at t k) p.0, contains_at (layer_at t k) p.0 p.2, p.3);
  all = λ k config (e, b, same).
      let p = place_of (layer_at t k) e b in
      (come_at s.come k p.place, subst (λ (x : List ℕ). Says c k x (come_at s.come k p.place)) (ap (λ (x : Scored). x.config) p.is ∙ same) (o.each k p.place (layer_within t k e b) p.within));
}

plan_to : (t : Table) (k : ℕ) (e : Scored) (cost : ℕ) (a : Arrives t k e cost) → IsPlanTo t (k + 1) e (reverse (e ∷ a.way))
plan_to t k e cost a = subst (λ n. IsPlanTo t (n + 1) e (reverse (e ∷ a.way))) a.long (way_to t e a.way a.is_way)

bounds : (t : Table) (s : Solved) (c : CertData) → IsTable t → IsSolution t s → IsOfSolution t s c → AreBounds t c
bounds t s c v sol o k e before from value b said p =
    let a = arrives t s c v sol o k e before from b p in
    let l : IsLeastCost t (k + 1) e value = said_cost t s c v sol o k e (Some value) b said in
    let low = l.least (reverse (e ∷ a.way)) (plan_to t k e _ a) in
    let cost : plan_cost t.economy (reverse (e ∷ a.way)) ≡ from + step_cost t.economy (k + 1) before e.config e.row = cost_same t.economy (e ∷ a.way) ∙ a.costs in
    rw (← cost) low

nones : (t : Table) (s : Solved) (c : CertData) → IsTable t → IsSolution t s → IsOfSolution t s c → NoneAfterNone t c
nones t s c v sol o k e before None b said p = refl
nones t s c v sol o k e before (Some from) b said p =
    let a = arrives t s c v sol o k e before from b p in
    let none : (plan : List Scored) → IsPlanTo t (k + 1) e plan → ⊥ = said_cost t s c v sol o k e None b said in
    absurd (none (reverse (e ∷ a.way)) (plan_to t k e _ a))

-- what is named with a number has a plan of that cost
numbered_plan : (t : Table) (s : Solved) (c : CertData) → IsSolution t s → IsOfSolution t s c → (k : ℕ) (config : List ℕ) (value : ℕ) → Says c k config (Some value) → (e : Scored) × IsLeastCost t (k + 1) e value
numbered_plan t s c sol o k config value said =
    let p = o.only k config (Some value) said in
    (entry_at (layer_at t k) p.0, subst (λ (x : Option ℕ). IsCostToCome t (k + 1) (entry_at (layer_at t k) p.0) x) p.4 (sol.come.each k p.0 p.1 p.2))

on_claim : (t : Table) (s : Solved) (c : CertData) → IsTable t → IsSolution t s → IsOfSolution t s c → (claim : Outcome) → IsOutcome t claim → IsVerdictOn t c claim Yes
on_claim t s c v sol o (Plan chosen total) out =
    let over : IsPlanOver t chosen out.plan = record { admissible = out.is_chosen.admissible; shown = sym out.shown } in
    let last : IsAtMostLast c total = λ k config value h said.
    let n = numbered_plan t s c sol o k config value said in
    let worse = out.is_chosen.best n.1.plan n.1.to.admissible (n.1.to.long ∙ (h ∙ o.years)) in
    below (plan_cost t.economy out.plan) (plan_cost t.economy n.1.plan) total value out.costs n.1.costs (⊎_elim (λ less. omega (arith, less)) (λ same. omega (arith, same.0)) worse) in
    inr ((out.plan, over), inr (λ plan p. ap (λ (xs : List Scored). plan_cost t.economy xs) (one_plan t v chosen plan out.plan p over) ∙ sym out.costs, inr (last, refl)))
  where
    below : (x y a b : ℕ) → a ≡ x → y ≡ b → x ≤ y → a ≤ b
    below x y a b f g h = omega (arith, f, g, h)
on_claim t s c v sol o (Infeasible year) out =
    let none : IsNoneIn c year = λ k config value h said. wanting k config value h said in
    inr (none, refl)
  where
    wanting : (k : ℕ) (config : List ℕ) (value : Option ℕ) → k + 1 ≡ year → Says c k config value → value ≡ None
    wanting k config None h said = refl
    wanting k config (Some value) h said =
        let n = numbered_plan t s c sol o k config value said in
        absurd (out.none (record { plan = n.1.plan; admissible = n.1.to.admissible; long = n.1.to.long ∙ h }))

pub certified : SolutionsAreCertified
certified t s c v sol o =
    let claim : IsVerdictOn t c c.claim Yes = on_claim t s c v sol o c.claim (subst (λ x. IsOutcome t x) (sym o.claim) sol.outcome) in
    inr (named t s c o, inr (bounds t s c v sol o, inr (nones t s c v sol o, claim)))
