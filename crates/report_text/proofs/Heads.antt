-- What stands before the COME lines: the plan with its total, or the year that no plan reaches.
use Rattle.std.proofs.Common.{◌≡◌, ℕ, ◌+◌, ◌^◌, ◌<◌, ◌≤◌, List, [], ◌∷◌, ◌++◌, length, map, All, Contains, Option, refl, sym, ap, subst, ◌∙◌, arith, inl, inr, ⊎_elim}
use Rattle.std.proofs.lemmas.Bool.{cases_eq}
use Rattle.std.proofs.lemmas.Grind.{flat_map-append}
use Rattle.std.proofs.lemmas.List.{append-nil, length-map}
use Rattle.std.proofs.lemmas.List.Elements.{All-cons, All-head, All-nil, All-tail, All-weaker, Contains-append_left}
use Rattle.cost_terms.specs.CostData.{Fits, greatest}
use Rattle.cost_terms.specs.Table.{IsTable, Table}
use Rattle.deck_lines.specs.declared.line.CertLine.{CertLine}
use Rattle.deck_lines.specs.declared.line.CertLine.TheVariants as certs
use Rattle.plan_program.specs.Chosen.{IsInfeasible, IsOutcome, IsPlanOf}
use Rattle.plan_program.specs.Plans.{configs}
use Rattle.plan_program.specs.declared.solved.Outcome.{Outcome}
use Rattle.plan_program.specs.declared.solved.Outcome.TheVariants.{Plan, Infeasible}
use Rattle.plan_certificate.specs.Certificate.{IsClaim}
use Rattle.plan_certificate.specs.Reading.{IsClaimedBy, IsComplete, chosen_by, chosen_of}
use Rattle.plan_certificate.proofs.Aligned.{contains_head, none_in_none}
use Rattle.plan_certificate.proofs.Lines.{chosen_add, contains_cases, contains_end, kind}
use Rattle.wasp_fixed.proofs.Lists.{contains_tail}
use Rattle.report_text.specs.declared.data.PlanYear.{PlanYear}
use Rattle.report_text.specs.Report.{outcome_line, plan_of}
use Rattle.report_text.proofs.Following.{ChosenFollow, Follow, before_first, chosen_follow, follow_append, infeasible_good, no_come, total_good}
use Rattle.report_text.proofs.Layers.{fits_config, layers_few, plan_fits}
use Rattle.report_text.proofs.Parts.{IsPart}
use Rattle.report_text.proofs.YearParts.{IsConfig, chosen_lines, infeasible_part, total_part}

abbrev pub outcome_lines : Outcome → List CertLine
outcome_lines (Plan configs total) = certs.Total total ∷ []
outcome_lines (Infeasible t) = certs.Infeasible t ∷ []

abbrev pub head_lines : Outcome → List PlanYear → List CertLine
head_lines o ys = chosen_lines 1 ys ++ outcome_lines o

-- the total of a plan has at most 18 digits
abbrev pub IsSmallOutcome : Outcome → Type 0
IsSmallOutcome (Plan configs total) = total < 10 ^ 18
IsSmallOutcome (Infeasible t) = Unit {0}

pub record IsHead (t : Table) (o : Outcome) (ys : List PlanYear) : Type 0 where
  pub few : length ys ≤ 30
  pub configs : All (λ y. IsConfig y.config) ys
  pub printed : IsPart (outcome_line o) (outcome_lines o)
  pub follow : Follow (length t.layers) (length (greatest t.economy)) [] (head_lines o ys)
  pub no_comes : (year : ℕ) (config : List ℕ) (value : Option ℕ) → Contains (head_lines o ys) (certs.Come year config value) → ⊥
  pub complete : (more : List CertLine) → IsComplete (length t.layers) (head_lines o ys ++ more)
  pub claimed : (more : List CertLine) → chosen_of more ≡ [] → IsClaimedBy (head_lines o ys ++ more) o
  pub claim : IsClaim (length t.layers) (length (greatest t.economy)) o

-- ---- CHOSEN lines

config_of_year : PlanYear → List ℕ
config_of_year y = y.config

all_years : (P : List ℕ → Type 0) (ys : List PlanYear) → All P (map config_of_year ys) → All (λ y. P y.config) ys
unfolding config_of_year
all_years P [] h = All-nil (λ (y : PlanYear). P y.config)
all_years P (y ∷ ys) h =
    All-cons (λ (z : PlanYear). P z.config) y ys (All-head P y.config (map config_of_year ys) h) (all_years P ys (All-tail P y.config (map config_of_year ys) h))

told_configs : (t : ℕ) (ys : List PlanYear) → map (λ p. p.1) (chosen_of (chosen_lines t ys)) ≡ map config_of_year ys
unfolding config_of_year
told_configs t [] = refl
told_configs t (y ∷ ys) = ap (λ (xs : List (List ℕ)). y.config ∷ xs) (told_configs (t + 1) ys)

year_told : (t : ℕ) (ys : List PlanYear) (year : ℕ) → t ≤ year → year < t + length ys → (config : List ℕ) × Contains (chosen_lines t ys) (certs.Chosen year config)
year_told t [] year low high = absurd (omega (arith, low, high))
year_told t (y ∷ ys) year low high =
    ⊎_elim
    (λ (here : t ≡ year). (y.config, subst (λ n. Contains (chosen_lines t (y ∷ ys)) (certs.Chosen n y.config)) here (contains_head (certs.Chosen t y.config) (chosen_lines (t + 1) ys))))
    (λ other.
    let p = year_told (t + 1) ys year (omega (arith, low, other)) (omega (arith, high)) in
    (p.0, contains_tail (certs.Chosen t y.config) (chosen_lines (t + 1) ys) (certs.Chosen year p.0) p.1))
    (cases_eq t year)

-- ---- a plan

plan_head : (t : Table) → IsTable t → (chosen : List (List ℕ)) (total : ℕ) (ys : List PlanYear) → IsPlanOf t chosen total → total < 10 ^ 18 → map config_of_year ys ≡ chosen → IsHead t (Plan chosen total) ys
plan_head t v chosen total ys p small told =
    let years = length t.layers in
    let width = length (greatest t.economy) in
    let fits : All (Fits t.economy) chosen = subst (All (Fits t.economy)) (sym p.shown) (plan_fits t v p.plan p.is_chosen.admissible) in
    let year_fits : All (λ y. Fits t.economy y.config) ys = all_years (Fits t.economy) ys (subst (All (Fits t.economy)) (sym told) fits) in
    let many : length chosen ≡ years = ap length p.shown ∙ (length-map p.plan _ ∙ p.is_chosen.whole) in
    let long : length ys ≡ years = sym (length-map ys config_of_year) ∙ (ap length told ∙ many) in
    let c : ChosenFollow years width 1 [] ys = chosen_follow years width 1 [] ys (omega (arith, long)) (All-weaker (λ (y : PlanYear). Fits t.economy y.config) (λ (y : PlanYear). length y.config ≡ width) (λ y f. f.width) ys year_fits) before_first in
    let last = certs.Total total in
    let told_all : (more : List CertLine) → chosen_of more ≡ [] → chosen_of (chosen_lines 1 ys ++ last ∷ [] ++ more) ≡ chosen_of (chosen_lines 1 ys) =
    λ more none. flat_map-append chosen_by (chosen_lines 1 ys ++ last ∷ []) more
    ∙ ((λ i. chosen_add (chosen_lines 1 ys) last i ++ none i) ∙ (append-nil _ ∙ append-nil _)) in
    record {
      few = omega (arith, long, layers_few t v);
      configs = All-weaker (λ (y : PlanYear). Fits t.economy y.config) (λ (y : PlanYear). IsConfig y.config) (λ y f. fits_config t.economy y.config v.economy f) ys year_fits;
      printed = total_part total small;
      follow = follow_append years width [] (chosen_lines 1 ys) (last ∷ []) c.follow (total_good years width (1 + length ys) (chosen_lines 1 ys) total c.next, tt);
      no_comes = λ year config value h. ⊎_elim (λ before. no_come (1 + length ys) (chosen_lines 1 ys) c.next year config value before) (λ e. omega (arith, ap kind e)) (contains_cases (chosen_lines 1 ys) last (certs.Come year config value) h);
      complete = λ more. inr (
        λ year low high.
            let q = year_told 1 ys year low (omega (arith, high, long)) in
            (q.0, Contains-append_left (chosen_lines 1 ys ++ last ∷ []) more (certs.Chosen year q.0) (Contains-append_left (chosen_lines 1 ys) (last ∷ []) (certs.Chosen year q.0) q.1)),
        (total, Contains-append_left (chosen_lines 1 ys ++ last ∷ []) more last (contains_end (chosen_lines 1 ys) last)),
      );
      claimed = λ more none. (
        sym told ∙ (sym (told_configs 1 ys) ∙ ap (λ (ps : List (ℕ × List ℕ)). map (λ p. p.1) ps) (sym (told_all more none))),
        Contains-append_left (chosen_lines 1 ys ++ last ∷ []) more last (contains_end (chosen_lines 1 ys) last),
      );
      claim = (many, All-weaker (Fits t.economy) (λ (config : List ℕ). length config ≡ width) (λ config f. f.width) chosen fits, small);
    }

-- ---- no plan

infeasible_head : (t : Table) → IsTable t → (year : ℕ) → IsInfeasible t year → IsHead t (Infeasible year) []
infeasible_head t v year p =
    let last = certs.Infeasible year in
    record {
      few = omega arith;
      configs = All-nil (λ (y : PlanYear). IsConfig y.config);
      printed = infeasible_part year p.within.0 (omega (arith, p.within.1, layers_few t v));
      follow = (infeasible_good (length t.layers) (length (greatest t.economy)) year p.within.1, tt);
      no_comes = λ y config value h. ⊎_elim (λ before. none_in_none (certs.Come y config value) before) (λ e. omega (arith, ap kind e)) (contains_cases [] last (certs.Come y config value) h);
      complete = λ more. inl (year, contains_head last more);
      claimed = λ more none. contains_head last more;
      claim = p.within;
    }

pub head_of : (t : Table) → IsTable t → (o : Outcome) (ys : List PlanYear) → IsOutcome t o → IsSmallOutcome o → map (λ y. y.config) ys ≡ plan_of o → IsHead t o ys
unfolding config_of_year
head_of t v (Plan chosen total) ys p small told = plan_head t v chosen total ys p small told
head_of t v (Infeasible year) [] p small told = infeasible_head t v year p
head_of t v (Infeasible year) (y ∷ ys) p small told = absurd (omega (arith, ap length told))
