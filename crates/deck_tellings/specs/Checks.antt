-- Checks: the CHECK that is open behind some lines, and what is said of its certificate at its ENDCHECK. This
-- program's own.
use Rattle.std.specs.Prelude.{◌≡◌, ℕ, ◌+◌, ◌<◌, ◌≤◌, ◌⊎◌, List, [], ◌∷◌, ◌++◌, length, reverse, Option, None, Some}
use Rattle.cost_terms.specs.Table.{Table}
use Rattle.deck_check.specs.DeckFault.{HasNoFault, IsFaultOf}
use Rattle.deck_check.specs.Readings.{Says, cases, greatest, years}
use Rattle.deck_lines.specs.declared.line.CertLine.{CertLine}
use Rattle.deck_lines.specs.declared.line.Line.{Line}
use Rattle.deck_lines.specs.declared.line.Line.TheVariants as lines
use Rattle.plan_certificate.specs.Certificate.{CertData, IsVerdict}
use Rattle.plan_certificate.specs.Reading.{AreCertLines, IsFormFault, IsSaidBy}
use Rattle.plan_certificate.specs.declared.judging.Verdict.{Verdict}
use Rattle.plan_certificate.specs.declared.judging.Verdict.TheVariants.{Yes, No}
use Rattle.report_text.specs.declared.refusals.Refusal.TheVariants.{Deck, Wide, Many}
use Rattle.report_text.specs.declared.verdicts.Judged.{Judged}
use Rattle.report_text.specs.declared.verdicts.Judged.TheVariants.{Refused, Form, Said}
use Rattle.case_study.specs.Case.{IsTableOf}
use Rattle.case_study.specs.Listings.{AreWithin, IsOverIn, deck_tunnels}
use Rattle.case_study.specs.Keys.{IsCaseKey}
use Rattle.sim_engine.specs.Engine.{Run}

-- ---- the open CHECK, looking back over the lines, the last line first

-- its case, and the lines of its certificate
pub record Open : Type 0 where
  pub case : ℕ
  pub certificate : List CertLine

-- with the lines that stand behind
abbrev pub looking_back : List Line → List CertLine → Option Open
looking_back [] behind = None
looking_back (lines.Check c ∷ earlier) behind = Some (record { case = c; certificate = behind })
looking_back (lines.EndCheck ∷ earlier) behind = None
looking_back (lines.Cert l ∷ earlier) behind = looking_back earlier (l ∷ behind)
looking_back (_ ∷ earlier) behind = looking_back earlier behind

abbrev pub open_at : List Line → Option Open
open_at before = looking_back (reverse before) []

-- what a line does to it
abbrev pub with_line : Option Open → CertLine → Option Open
with_line None l = None
with_line (Some o) l = Some (record o { certificate = o.certificate ++ l ∷ [] })

abbrev pub open_behind : Option Open → Line → Option Open
open_behind o (lines.Check c) = Some (record { case = c; certificate = [] })
open_behind o lines.EndCheck = None
open_behind o (lines.Cert l) = with_line o l
open_behind o _ = o

-- its case and its lines are in their ranges
pub record IsOpen (o : Open) : Type 0 where
  pub case : (1 ≤ o.case) × (o.case ≤ 8)
  pub lines : AreCertLines o.certificate

-- the CHECK lines among some lines
abbrev pub check_count : List Line → ℕ
check_count [] = 0
check_count (lines.Check c ∷ ls) = check_count ls + 1
check_count (_ ∷ ls) = check_count ls

-- ---- condition 0: the certificate's form

-- the deck has no such case (0), or a line of the certificate has a fault or is missing, by its number
abbrev pub IsFormFaultOf : Says → Open → ℕ → Type 0
IsFormFaultOf d o i =
    ((cases d < o.case) × (i ≡ 0)) ⊎ ((o.case ≤ cases d) × IsFormFault (years d) (length (greatest d)) o.certificate i)

pub record IsInForm (d : Says) (o : Open) : Type 0 where
  pub case : o.case ≤ cases d
  pub form : (i : ℕ) → IsFormFault (years d) (length (greatest d)) o.certificate i → ⊥

-- ---- what is said

-- it is neither refused nor failed in its form
pub record IsChecked (d : Says) (o : Open) : Type 0 where
  pub faultless : HasNoFault d
  pub in_form : IsInForm d o
  pub within : AreWithin d o.case (deck_tunnels d o.case)

-- the certificate that the lines say is judged against the table of the case
pub record IsVerdictOf (d : Says) (o : Open) (verdict : Verdict) : Type 0 where
  pub table : Table
  pub is_table : IsTableOf d o.case (deck_tunnels d o.case) table
  pub certificate : CertData
  pub is_said : IsSaidBy (years d) (length (greatest d)) o.certificate certificate
  pub is_verdict : IsVerdict table certificate verdict

-- the fault table comes first, then condition 0, then the limits on this case's configurations, then the conditions
abbrev pub IsJudged : Says → Open → Judged → Type 0
IsJudged d o (Refused (Deck fault)) = IsFaultOf d fault
IsJudged d o (Form i) = HasNoFault d × IsFormFaultOf d o i
IsJudged d o (Refused (Wide c t n)) = HasNoFault d × IsInForm d o × IsOverIn d o.case (deck_tunnels d o.case) (Wide c t n)
IsJudged d o (Refused (Many c t n)) = HasNoFault d × IsInForm d o × IsOverIn d o.case (deck_tunnels d o.case) (Many c t n)
IsJudged d o (Said verdict) =
    HasNoFault d × IsInForm d o × AreWithin d o.case (deck_tunnels d o.case) × IsVerdictOf d o verdict

-- one NO, or none; a refused check is no NO
abbrev pub nos_of : Judged → ℕ
nos_of (Refused r) = 0
nos_of (Form i) = 1
nos_of (Said Yes) = 0
nos_of (Said (No k)) = 1

-- ---- the keys that are demanded

-- a CHECK demands it that is neither refused nor failed in its form
abbrev pub DemandsChecked : Says → Open → Run → Type 0
DemandsChecked d o key = IsChecked d o × IsCaseKey d o.case (deck_tunnels d o.case) key

-- the ENDCHECK of an open CHECK demands it
abbrev pub DemandsAtEnd : Says → Option Open → Run → Type 0
DemandsAtEnd d None key = ⊥
DemandsAtEnd d (Some o) key = DemandsChecked d o key

-- there is an open CHECK, which is neither
abbrev pub IsCheckedAtEnd : Says → Option Open → Type 0
IsCheckedAtEnd d None = ⊥
IsCheckedAtEnd d (Some o) = IsChecked d o
