-- What is told of a PLAN line, and at an ENDCHECK line. This program's own.
use Rattle.std.specs.Prelude.{◌≡◌, ℕ, zero, suc, ◌⊎◌, length, Option, None, Some}
use Rattle.deck_check.specs.DeckFault.{IsFaultOf}
use Rattle.deck_check.specs.Readings.{Says, cases}
use Rattle.deck_check.specs.declared.fault.DeckFault.{DeckFault}
use Rattle.report_text.specs.Lines.{heading}
use Rattle.report_text.specs.Refusals.{refusal_line}
use Rattle.report_text.specs.Report.{case_text}
use Rattle.report_text.specs.Verdicts.{verdict_line}
use Rattle.report_text.specs.declared.data.CaseReport.{CaseReport}
use Rattle.report_text.specs.declared.refusals.Refusal.{Refusal}
use Rattle.report_text.specs.declared.refusals.Refusal.TheVariants.{Deck}
use Rattle.report_text.specs.declared.verdicts.Judged.{Judged}
use Rattle.deck_tellings.specs.Accepted.{IsAccepted}
use Rattle.case_study.specs.Case.{IsReportOf}
use Rattle.deck_tellings.specs.Checks.{IsJudged, Open, nos_of}
use Rattle.case_study.specs.Listings.{IsRefusalOf, IsTaken, deck_tunnels}
use Rattle.deck_tellings.specs.Told.{AreJoined, Told, nothing, plain}

-- ---- a PLAN

-- what is told of a case: its report, which as a certificate is accepted on the same deck
pub record IsCaseTold (d : Says) (c : ℕ) (told : Told) : Type 0 where
  pub report : CaseReport
  pub is_of : IsReportOf d c (deck_tunnels d c) report
  pub text : told.text ≡ case_text c report
  pub details : told.details ≡ length report.years
  pub nos : told.nos ≡ 0
  pub accepted : IsAccepted d c told.text

-- of the first cases
abbrev pub AreCasesTold : Says → ℕ → Told → Type 0
AreCasesTold d zero told = told ≡ nothing
AreCasesTold d (suc c) told = AreJoined (AreCasesTold d c) (IsCaseTold d (suc c)) told

-- of a deck that is refused
pub record IsRefusalTold (d : Says) (told : Told) : Type 0 where
  pub refusal : Refusal
  pub is_of : IsRefusalOf d refusal
  pub is : told ≡ plain (refusal_line refusal)

-- of one that has a fault
pub record IsFaultTold (d : Says) (told : Told) : Type 0 where
  pub fault : DeckFault
  pub is_of : IsFaultOf d fault
  pub is : told ≡ plain (refusal_line (Deck fault))

-- of one that is not refused
pub record IsReportTold (d : Says) (told : Told) : Type 0 where
  pub taken : IsTaken d
  pub cases : AreCasesTold d (cases d) told

abbrev pub IsDeckTold : Says → Told → Type 0
IsDeckTold d told = IsRefusalTold d told ⊎ IsReportTold d told

-- of the n-th PLAN on a deck
abbrev pub IsPlanTold : ℕ → Says → Told → Type 0
IsPlanTold n d told = AreJoined (λ head. head ≡ plain (heading n)) (IsDeckTold d) told

-- ---- a CHECK

-- of the n-th CHECK on a deck, at its ENDCHECK
pub record IsVerdictTold (d : Says) (n : ℕ) (o : Open) (told : Told) : Type 0 where
  pub judged : Judged
  pub is_of : IsJudged d o judged
  pub is : told ≡ record { text = verdict_line n o.case judged; details = 0; nos = nos_of judged }

-- and nothing where none is open
abbrev pub IsCheckTold : Says → ℕ → Option Open → Told → Type 0
IsCheckTold d n None told = told ≡ nothing
IsCheckTold d n (Some o) told = IsVerdictTold d n o told
