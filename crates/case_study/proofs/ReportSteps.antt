-- The report of a case, from its parts.
use Rattle.std.proofs.Common.{◌≡◌, sym, subst, ℕ, ◌≤◌, All, List, map}
use Rattle.cost_terms.specs.Cost.{nothing_built}
use Rattle.cost_terms.specs.Table.{Table}
use Rattle.checked_deck.specs.Economy.{costs}
use Rattle.deck_check.specs.Readings.{Says}
use Rattle.deck_check.specs.Readings as says
use Rattle.plan_program.specs.Chosen.{IsSolution}
use Rattle.plan_program.specs.declared.solved.Solved.{Solved}
use Rattle.report_text.specs.Report.{HasWidths, IsCaseReport, plan_of}
use Rattle.report_text.specs.declared.data.CaseReport.{CaseReport}
use Rattle.report_text.specs.declared.data.PlanYear.{PlanYear}
use Rattle.case_study.specs.Case.{AreYearsFrom, IsReportOf, IsTableOf, conditions_of}
use Rattle.case_study.specs.Listings.{Tunnels}

-- the report of a settled case
pub report_is : (d : Says) (c : ℕ) (tunnels : Tunnels) (table t : Table) (solved s : Solved) (ys : List PlanYear) (most : List ℕ) (n : ℕ) → t ≡ table → s ≡ solved
    → IsTableOf d c tunnels table → IsSolution table solved → most ≡ says.greatest d → n ≡ conditions_of d → map (λ (y : PlanYear). y.config) ys ≡ plan_of s.outcome
    → AreYearsFrom d 1 tunnels (nothing_built (costs d)) ys → IsReportOf d c tunnels (record { years = ys; greatest = most; conditions = n; table = t; solved = s })
report_is d c tunnels table t solved s ys most n same_table same_solved of_case solution is_most is_n plan planned = record {
  conditions = is_n;
  greatest = is_most;
  table = subst (IsTableOf d c tunnels) (sym same_table) of_case;
  solution = subst (λ (z : Table). IsSolution z s) (sym same_table) (subst (IsSolution table) (sym same_solved) solution);
  plan = plan;
  years = planned;
}

-- it can be written
pub report_in_form : (d : Says) (c : ℕ) (tunnels : Tunnels) (report : CaseReport) → IsReportOf d c tunnels report → report.conditions ≤ 5 → All (HasWidths (says.greatest d)) report.years → IsCaseReport report
report_in_form d c tunnels report is few wide = record {
  conditions = few;
  solution = is.solution;
  years = is.plan;
  widths = subst (λ (most : List ℕ). All (HasWidths most) report.years) (sym is.greatest) wide;
}
