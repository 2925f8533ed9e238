-- A certificate that meets its conditions is true, by induction over plans with the certificate's numbers.
use Rattle.std.proofs.Common.{◌≡◌, ℕ, zero, suc, ◌+◌, ◌-◌, ◌<◌, ◌≤◌, List, [], ◌∷◌, length, reverse, Contains, Option, Some, None, sym, ap, ◌∙◌, arith, refl, subst, ⊎_elim}
use Rattle.std.proofs.lemmas.Bool.{cases_eq}
use Rattle.std.proofs.lemmas.List.{length-reverse, reverse-reverse}
use Rattle.std.proofs.lemmas.Option.{none-some}
use Rattle.cost_terms.specs.Cost.{nothing_built, step_cost}
use Rattle.cost_terms.specs.Table.{IsTable, Table, plan_cost}
use Rattle.cost_terms.specs.declared.entries.Scored.{Scored}
use Rattle.plan_program.specs.Chosen.{HasPlan}
use Rattle.plan_program.specs.Plans.{IsAdmissible, layer_at}
use Rattle.plan_program.specs.Ways.{IsWay, last_config, way_cost}
use Rattle.plan_program.specs.declared.solved.Outcome.{Outcome}
use Rattle.plan_program.specs.declared.solved.Outcome.TheVariants.{Plan, Infeasible}
use Rattle.plan_program.proofs.Ways.{cost_same, plan_way, way_plan}
use Rattle.plan_certificate.specs.Certificate.{AreBounds, CertData, Costs, First, HasPlanOver, IsAtMostLast, IsCertificate, IsClaim, IsNoneIn, IsPlanOver, IsVerdict, IsVerdictOn, IsYes, NamesAccepted, NoneAfterNone, Precedes, Says}
use Rattle.plan_certificate.specs.Truth.{HasNoPlan, IsLeastPlan, IsTrueOf, YesMeansTrue}
use Rattle.plan_certificate.specs.declared.judging.Verdict.{Verdict}
use Rattle.plan_certificate.specs.declared.judging.Verdict.TheVariants.{Yes, No}
use Rattle.plan_certificate.proofs.Walks.{over_long}

-- the entry of a configuration that a plan ends in is a number, at most the plan's cost
pub record IsUnder (c : CertData) (k : ℕ) (e : Scored) (cost : ℕ) : Type 0 where
  pub value : ℕ
  pub said : Says c k e.config (Some value)
  pub least : value ≤ cost

under_step : (t : Table) (c : CertData) → AreBounds t c → NoneAfterNone t c → (k : ℕ) (e : Scored) (before : List ℕ) (from cost : ℕ) → Contains (layer_at t k) e → Precedes t c k e.config before (Some from) → from + step_cost t.economy (k + 1) before e.config e.row ≤ cost → ((value : Option ℕ) × Says c k e.config value) → IsUnder c k e cost
under_step t c bounds nones k e before from cost b p h (value, s) = case value s
  where
    case : (value : Option ℕ) → Says c k e.config value → IsUnder c k e cost
    case None s = absurd (none-some from (sym (nones k e before (Some from) b s p)))
    case (Some v) s = record { value = v; said = s; least = omega (arith, bounds k e before from v b s p, h) }

pub under : (t : Table) (c : CertData) → NamesAccepted t c → AreBounds t c → NoneAfterNone t c → (e : Scored) (before : List Scored) → IsWay t (e ∷ before) → IsUnder c (length before) e (way_cost t.economy (e ∷ before))
under t c names bounds nones e [] w =
    under_step t c bounds nones 0 e (nothing_built t.economy) 0 (way_cost t.economy (e ∷ [])) w.1 (refl, refl) (omega arith) (names.all 0 e.config (e, w.1, refl))
under t c names bounds nones e (d ∷ ds) w =
    let u = under t c names bounds nones d ds w.3 in
    let k = length ds in
    let year : suc k + 1 ≡ length (d ∷ ds) + 1 = omega arith in
    let step : step_cost t.economy (suc k + 1) d.config e.config e.row ≡ step_cost t.economy (length (d ∷ ds) + 1) d.config e.config e.row = ap (λ n. step_cost t.economy n d.config e.config e.row) year in
    under_step t c bounds nones (suc k) e d.config u.value (way_cost t.economy (e ∷ d ∷ ds)) w.1 ((d, w.3.1, refl), w.2, u.said) (sums u.value (way_cost t.economy (d ∷ ds)) _ _ u.least step) (names.all (suc k) e.config (e, w.1, refl))
  where
    sums : (u w a b : ℕ) → u ≤ w → a ≡ b → u + a ≤ w + b
    sums u w a b h g = omega (arith, h, g)

-- ---- a plan

least_way : (t : Table) (c : CertData) → NamesAccepted t c → AreBounds t c → NoneAfterNone t c → (total : ℕ) → IsAtMostLast c total → (way : List Scored) → IsWay t way → length way ≡ c.years → 1 ≤ c.years → total ≤ way_cost t.economy way
least_way t c names bounds nones total last [] w n some = absurd (omega (arith, n, some))
least_way t c names bounds nones total last (e ∷ before) w n some =
    let u = under t c names bounds nones e before w in
    omega (arith, u.least, last (length before) e.config u.value (omega (arith, n)) u.said)

true_plan : (t : Table) (c : CertData) → IsCertificate c → c.years ≡ length t.layers → NamesAccepted t c → AreBounds t c → NoneAfterNone t c → (chosen : List (List ℕ)) (total : ℕ) → IsClaim c.years c.width (Plan chosen total) → HasPlanOver t chosen → Costs t chosen total → IsAtMostLast c total → IsLeastPlan t chosen total
true_plan t c v n names bounds nones chosen total claim (plan, p) costs last = record {
  plan = plan;
  shown = p.shown;
  admissible = p.admissible;
  whole = over_long t chosen plan p ∙ (claim.0 ∙ n);
  costs = costs plan p;
  least = λ other a long.
      let cost : plan_cost t.economy other ≡ way_cost t.economy (reverse other) = ap (λ (xs : List Scored). plan_cost t.economy xs) (sym (reverse-reverse other)) ∙ cost_same t.economy (reverse other) in
      rw cost (least_way t c names bounds nones total last (reverse other) (plan_way t other a) (length-reverse other ∙ (long ∙ sym n)) v.years.0);
}

-- ---- no plan

none_way : (t : Table) (c : CertData) → NamesAccepted t c → AreBounds t c → NoneAfterNone t c → (year : ℕ) → IsNoneIn c year → (way : List Scored) → IsWay t way → length way ≡ year → 1 ≤ year → ⊥
none_way t c names bounds nones year none [] w n some = omega (arith, n, some)
none_way t c names bounds nones year none (e ∷ before) w n some =
    let u = under t c names bounds nones e before w in
    none-some u.value (sym (none (length before) e.config (Some u.value) (omega (arith, n)) u.said))

-- the first years of a plan
pub record Front (t : Table) (n : ℕ) : Type 0 where
  pub way : List Scored
  pub is_way : IsWay t way
  pub long : length way ≡ n

front : (t : Table) (n : ℕ) (way : List Scored) → IsWay t way → n ≤ length way → Front t n
front t n [] w h = record { way = []; is_way = tt; long = omega (arith, h) }
front t n (e ∷ es) w h =
    ⊎_elim
    (λ same. record { way = e ∷ es; is_way = w; long = sym same })
    (λ other. front t n es w.3 (omega (arith, h, other)))
    (cases_eq n (length (e ∷ es)))

true_none : (t : Table) (c : CertData) → c.years ≡ length t.layers → NamesAccepted t c → AreBounds t c → NoneAfterNone t c → (year : ℕ) → IsClaim c.years c.width (Infeasible year) → IsNoneIn c year → HasNoPlan t year
true_none t c n names bounds nones year claim none = record {
  up_to = λ p. none_way t c names bounds nones year none (reverse p.plan) (plan_way t p.plan p.admissible) (length-reverse p.plan ∙ p.long) claim.0;
  whole = λ p.
      let f = front t year (reverse p.plan) (plan_way t p.plan p.admissible) (omega (arith, length-reverse p.plan, p.long, claim.1, n)) in
      none_way t c names bounds nones year none f.way f.is_way f.long claim.0;
}

-- ---- the verdict

pub plan_claim : (t : Table) (c : CertData) (claim : Outcome) (xs ys : List (List ℕ)) (total : ℕ) (v : Verdict) → claim ≡ Plan ys total → xs ≡ ys → IsVerdictOn t c (Plan xs total) v → IsVerdictOn t c claim v
plan_claim t c claim xs ys total v e s h = subst (λ (o : Outcome). IsVerdictOn t c o v) (sym e) (subst (λ (zs : List (List ℕ)). IsVerdictOn t c (Plan zs total) v) s h)

abbrev is_no : Verdict → Type 0
is_no Yes = ⊥
is_no (No n) = Unit {0}

yes_no : (n : ℕ) → Yes ≡ No n → ⊥
yes_no n e = subst is_no (sym e) tt

pub passed : (n : ℕ) (P : Type 0) (rest : Verdict → Type 0) → First n P rest Yes → P × rest Yes
passed n P rest h = ⊎_elim (λ fails. absurd (yes_no n fails.1)) (λ holds. holds) h

true_claim : (t : Table) (c : CertData) → IsCertificate c → c.years ≡ length t.layers → NamesAccepted t c → AreBounds t c → NoneAfterNone t c → (claim : Outcome) → IsClaim c.years c.width claim → IsVerdictOn t c claim Yes → IsTrueOf t claim
true_claim t c v n names bounds nones (Plan chosen total) claim h =
    let a = passed 4 (HasPlanOver t chosen) (First 5 (Costs t chosen total) (First 6 (IsAtMostLast c total) IsYes)) h in
    let b = passed 5 (Costs t chosen total) (First 6 (IsAtMostLast c total) IsYes) a.1 in
    let d = passed 6 (IsAtMostLast c total) IsYes b.1 in
    true_plan t c v n names bounds nones chosen total claim a.0 b.0 d.0
true_claim t c v n names bounds nones (Infeasible year) claim h =
    let a = passed 7 (IsNoneIn c year) IsYes h in
    true_none t c n names bounds nones year claim a.0

pub yes_true : YesMeansTrue
yes_true t c w v n h =
    let a = passed 1 (NamesAccepted t c) (First 2 (AreBounds t c) (First 3 (NoneAfterNone t c) (IsVerdictOn t c c.claim))) h in
    let b = passed 2 (AreBounds t c) (First 3 (NoneAfterNone t c) (IsVerdictOn t c c.claim)) a.1 in
    let d = passed 3 (NoneAfterNone t c) (IsVerdictOn t c c.claim) b.1 in
    true_claim t c v n a.0 b.0 d.0 c.claim v.claim d.1
