-- The text of a report is read back as what was solved.
use Rattle.std.proofs.Common.{◌≡◌, ◌↔◌, ℕ, ◌+◌, ◌<◌, List, [], ◌∷◌, ◌++◌, length, Contains, Option, refl, sym, ap, subst, arith, ⊎_elim}
use Rattle.std.specs.Prelude.{slice_index_or}
use Rattle.std.proofs.lemmas.List.Elements.{Contains-append_cases, Contains-append_right}
use Rattle.cost_terms.specs.CostData.{greatest}
use Rattle.cost_terms.specs.Table.{IsTable, Table}
use Rattle.deck_lines.specs.declared.line.CertLine.{CertLine}
use Rattle.deck_lines.specs.declared.line.CertLine.TheVariants as certs
use Rattle.plan_program.specs.CostToCome.{AreSmall, come_at}
use Rattle.plan_program.specs.Plans.{entry_at, layer_at}
use Rattle.plan_program.specs.declared.solved.Solved.{Solved}
use Rattle.plan_certificate.specs.Certificate.{Says}
use Rattle.plan_certificate.specs.Reading.{IsSaidBy}
use Rattle.plan_certificate.proofs.Lines.{config_of, value_of, year_of}
use Rattle.report_text.specs.declared.data.CaseReport.{CaseReport}
use Rattle.report_text.specs.declared.data.PlanYear.{PlanYear}
use Rattle.report_text.specs.ReadBack.{IsPrintable, ReportsReadBack, SaySolution}
use Rattle.report_text.specs.Report.{case_text, come_line, come_lines, come_text}
use Rattle.report_text.proofs.Comes.{NamedBefore, all_comes, come_in, come_of, comes_follow, in_comes, no_chosen, year_comes}
use Rattle.report_text.proofs.Costs.{come_small, outcome_small}
use Rattle.report_text.proofs.Following.{follow_append, in_form}
use Rattle.report_text.proofs.Heads.{IsHead, head_lines, head_of, outcome_lines}
use Rattle.report_text.proofs.Layers.{entry_config, layers_few}
use Rattle.report_text.proofs.Parts.{IsPart, part_append, part_texts}
use Rattle.report_text.proofs.Saying.{said_form, said_of, said_solution, says_each, says_only, small_some}
use Rattle.report_text.proofs.YearParts.{case_part, chosen_lines, come_part, years_part}

-- ---- the text

comes_part : (t : Table) (come : List (List (Option ℕ))) → IsTable t → AreSmall come → IsPart (come_text t come) (all_comes t come)
comes_part t come v small =
    part_texts (length t.layers) (λ k. come_lines (k + 1) (layer_at t k) (slice_index_or come k [])) (year_comes t come) (λ k h.
    part_texts (length (layer_at t k)) (λ i. come_line (k + 1) (entry_at (layer_at t k) i).config (come_at come k i)) (λ i. come_of t come k i ∷ []) (λ i b.
    come_part (k + 1) (entry_at (layer_at t k) i).config (come_at come k i) (omega arith) (omega (arith, h, layers_few t v)) (entry_config t v k i h b) (small_some (come_at come k i) (λ cost e. small k i cost e))))

abbrev certificate_of : CaseReport → List CertLine
certificate_of d = head_lines d.solved.outcome d.years ++ all_comes d.table d.solved.come

case_is_part : (c : ℕ) (d : CaseReport) → IsTable d.table → IsPrintable c d → AreSmall d.solved.come → IsHead d.table d.solved.outcome d.years → IsPart (case_text c d) (certificate_of d)
case_is_part c d v p small h =
    part_append _ _ (head_lines d.solved.outcome d.years) (all_comes d.table d.solved.come)
    (part_append _ _ (chosen_lines 1 d.years) (outcome_lines d.solved.outcome)
    (part_append _ _ [] (chosen_lines 1 d.years) (case_part c p.number) (years_part d.conditions d.greatest 1 d.years (omega arith) (omega (arith, h.few)) h.configs p.years))
    h.printed)
    (comes_part d.table d.solved.come v small)

-- ---- what it says

said_line : (t : Table) (s : Solved) (ys : List PlanYear) → IsHead t s.outcome ys → (k : ℕ) (config : List ℕ) (value : Option ℕ)
    → Says (said_of t s) k config value ↔ Contains (head_lines s.outcome ys ++ all_comes t s.come) (certs.Come (k + 1) config value)
said_line t s ys h k config value = (λ said. come (says_only t s k config value said), λ c. said c)
  where
    come : (i : ℕ) × (k < length t.layers) × (i < length (layer_at t k)) × ((entry_at (layer_at t k) i).config ≡ config) × (come_at s.come k i ≡ value) → Contains (head_lines s.outcome ys ++ all_comes t s.come) (certs.Come (k + 1) config value)
    come (i, year, b, same, cost) =
        let line : come_of t s.come k i ≡ certs.Come (k + 1) config value = λ j. certs.Come (k + 1) (same j) (cost j) in
        Contains-append_right (head_lines s.outcome ys) (all_comes t s.come) (certs.Come (k + 1) config value) (subst (λ (x : CertLine). Contains (all_comes t s.come) x) line (come_in t s.come k i year b))

    found : (m : ℕ) × (i : ℕ) × (m < length t.layers) × (i < length (layer_at t m)) × (come_of t s.come m i ≡ certs.Come (k + 1) config value) → Says (said_of t s) k config value
    found (m, i, year, b, e) =
        let same : m ≡ k = omega (arith, ap year_of e) in
        subst (λ n. Says (said_of t s) n config value) same
        (subst (λ (x : List ℕ). Says (said_of t s) m x value) (ap config_of e) (subst (λ (o : Option ℕ). Says (said_of t s) m (entry_at (layer_at t m) i).config o) (ap value_of e) (says_each t s m i year b)))

    said : Contains (head_lines s.outcome ys ++ all_comes t s.come) (certs.Come (k + 1) config value) → Says (said_of t s) k config value
    said c =
        ⊎_elim
        (λ before. absurd (h.no_comes (k + 1) config value before))
        (λ later. found (in_comes t s.come (certs.Come (k + 1) config value) later))
        (Contains-append_cases (head_lines s.outcome ys) (all_comes t s.come) (certs.Come (k + 1) config value) c)

said_by : (t : Table) (s : Solved) (ys : List PlanYear) → IsTable t → IsHead t s.outcome ys → IsSaidBy (length t.layers) (length (greatest t.economy)) (head_lines s.outcome ys ++ all_comes t s.come) (said_of t s)
said_by t s ys v h =
    let years = length t.layers in
    let width = length (greatest t.economy) in
    let heads = head_lines s.outcome ys in
    let none : NamedBefore t 0 0 heads = λ year config value c. absurd (h.no_comes year config value c) in
    record {
      form = in_form years width (heads ++ all_comes t s.come) (follow_append years width [] heads (all_comes t s.come) h.follow (comes_follow t v s.come 0 years heads (omega arith) none));
      complete = h.complete (all_comes t s.come);
      same_years = refl;
      same_width = refl;
      entries = said_line t s ys h;
      claim = h.claimed (all_comes t s.come) (no_chosen t s.come);
    }

says_solution : (d : CaseReport) → IsTable d.table → AreSmall d.solved.come → IsHead d.table d.solved.outcome d.years → SaySolution d (certificate_of d)
says_solution d v small h = record {
  said = said_of d.table d.solved;
  is_certificate = said_form d.table d.solved v small h.claim;
  is_said = said_by d.table d.solved d.years v h;
  of_solution = said_solution d.table d.solved;
}

pub reads_back : ReportsReadBack
reads_back c d v r p =
    let small : AreSmall d.solved.come = come_small d.table d.solved.come v r.solution.come in
    let h : IsHead d.table d.solved.outcome d.years = head_of d.table v d.solved.outcome d.years r.solution.outcome (outcome_small d.table v d.solved.outcome r.solution.outcome) r.years in
    let part = case_is_part c d v p small h in
    (part.read, part.reads, subst (SaySolution d) (sym part.says) (says_solution d v small h))
