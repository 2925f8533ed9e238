-- A deck has one refusal, and a case one report. This program's own.
use Rattle.std.specs.Prelude.{◌≡◌, ℕ}
use Rattle.deck_check.specs.Readings.{Says}
use Rattle.report_text.specs.declared.data.CaseReport.{CaseReport}
use Rattle.report_text.specs.declared.refusals.Refusal.{Refusal}
use Rattle.case_study.specs.Case.{IsReportOf}
use Rattle.case_study.specs.Listings.{IsRefusalOf, IsTaken, Tunnels}

-- a deck is refused for one reason, and not refused where a PLAN on it is taken
pub record RefusalsAreOne : Type 0 where
  pub one : (d : Says) (r s : Refusal) → IsRefusalOf d r → IsRefusalOf d s → r ≡ s
  pub apart : (d : Says) (r : Refusal) → IsRefusalOf d r → IsTaken d → ⊥

-- a case of a deck has one report under tunnels
abbrev pub ReportsAreOne : Type 0
ReportsAreOne = (d : Says) (c : ℕ) (tunnels : Tunnels) (one other : CaseReport)
    → IsReportOf d c tunnels one → IsReportOf d c tunnels other → one ≡ other
