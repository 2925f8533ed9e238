-- The certificate that the lines of a CHECK say, or the first line that has a fault. Lines are numbered from
-- 1 and counted here from 0. This program's own.
use Rattle.std.specs.Prelude.{◌≡◌, ◌≢◌, ◌↔◌, ℕ, ◌+◌, ◌-◌, ◌<◌, ◌≤◌, ◌⊎◌, List, [], ◌∷◌, length, take, map, All, Contains, Option, slice_index, slice_index_or}
use Rattle.std.specs.List.{flat_map}
use Rattle.deck_lines.specs.Grammar.{IsCertLine}
use Rattle.deck_lines.specs.declared.line.CertLine.{CertLine}
use Rattle.deck_lines.specs.declared.line.CertLine.TheVariants.{Come, Chosen, Total, Infeasible}
use Rattle.cost_terms.specs.Table.{Table}
use Rattle.plan_program.specs.declared.solved.Outcome.{Outcome}
use Rattle.plan_program.specs.declared.solved.Outcome.TheVariants as claims
use Rattle.plan_certificate.specs.Certificate.{CertData, IsCertificate, IsVerdict, Says}
use Rattle.plan_certificate.specs.declared.judging.Verdict.{Verdict}

-- what is read past the last line
abbrev pub no_line : CertLine
no_line = Infeasible 0

abbrev pub line_at : List CertLine → ℕ → CertLine
line_at lines k = slice_index_or lines k no_line

-- ---- what lines say

-- an earlier line names the configuration in the year
abbrev pub IsNamedBy : List CertLine → ℕ → List ℕ → Type 0
IsNamedBy lines year config = (value : Option ℕ) × Contains lines (Come year config value)

-- the CHOSEN lines in order, each with its year and configuration
abbrev pub chosen_by : CertLine → List (ℕ × List ℕ)
chosen_by (Come year config value) = []
chosen_by (Chosen year config) = (year, config) ∷ []
chosen_by (Total total) = []
chosen_by (Infeasible year) = []

abbrev pub chosen_of : List CertLine → List (ℕ × List ℕ)
chosen_of lines = flat_map chosen_by lines

-- the year of the last CHOSEN line, 0 where there is none
abbrev pub last_year : List (ℕ × List ℕ) → ℕ
last_year chosen = slice_index (map (λ p. p.0) chosen) (length chosen - 1)

-- there is a TOTAL line, an INFEASIBLE line, a CHOSEN line
abbrev pub HasTotal : List CertLine → Type 0
HasTotal lines = (total : ℕ) × Contains lines (Total total)

abbrev pub HasInfeasible : List CertLine → Type 0
HasInfeasible lines = (year : ℕ) × Contains lines (Infeasible year)

abbrev pub HasChosen : List CertLine → Type 0
HasChosen lines = (year : ℕ) × (config : List ℕ) × Contains lines (Chosen year config)

-- ---- faults

-- a line has a fault, by those before it: a year above the last, a wrong number of counts, a configuration
-- named again, a CHOSEN out of order, a second TOTAL or INFEASIBLE, or one of a plan beside an INFEASIBLE
abbrev pub IsFaulty : ℕ → ℕ → List CertLine → CertLine → Type 0
IsFaulty years width earlier (Come year config value) = (years < year) ⊎ ((length config ≢ width) ⊎ IsNamedBy earlier year config)
IsFaulty years width earlier (Chosen year config) = (years < year) ⊎ ((length config ≢ width) ⊎ ((year ≢ last_year (chosen_of earlier) + 1) ⊎ HasInfeasible earlier))
IsFaulty years width earlier (Total total) = HasTotal earlier ⊎ HasInfeasible earlier
IsFaulty years width earlier (Infeasible year) = (years < year) ⊎ (HasInfeasible earlier ⊎ (HasChosen earlier ⊎ HasTotal earlier))

abbrev pub IsFaultyAt : ℕ → ℕ → List CertLine → ℕ → Type 0
IsFaultyAt years width lines k = IsFaulty years width (take k lines) (line_at lines k)

-- the first n lines have no fault
abbrev pub AreInForm : ℕ → ℕ → List CertLine → ℕ → Type 0
AreInForm years width lines n = (k : ℕ) → k < n → IsFaultyAt years width lines k → ⊥

-- there is an INFEASIBLE, or a CHOSEN for every year and a TOTAL
abbrev pub HasPlanLines : ℕ → List CertLine → Type 0
HasPlanLines years lines = ((year : ℕ) → 1 ≤ year → year ≤ years → (config : List ℕ) × Contains lines (Chosen year config)) × HasTotal lines

abbrev pub IsComplete : ℕ → List CertLine → Type 0
IsComplete years lines = HasInfeasible lines ⊎ HasPlanLines years lines

-- the first fault stands at the line with this number
pub record IsFirstFault (years width : ℕ) (lines : List CertLine) (number : ℕ) : Type 0 where
  pub some : 1 ≤ number
  pub within : number ≤ length lines
  pub faulty : IsFaultyAt years width lines (number - 1)
  pub before : AreInForm years width lines (number - 1)

-- no line has a fault, and something is missing: the number of lines plus 1
pub record IsMissing (years width : ℕ) (lines : List CertLine) (number : ℕ) : Type 0 where
  pub all : AreInForm years width lines (length lines)
  pub incomplete : IsComplete years lines → ⊥
  pub past : number ≡ length lines + 1

abbrev pub IsFormFault : ℕ → ℕ → List CertLine → ℕ → Type 0
IsFormFault years width lines number = IsFirstFault years width lines number ⊎ IsMissing years width lines number

-- ---- the certificate

-- the plan of the CHOSEN lines at the TOTAL, or the year of the INFEASIBLE line
abbrev pub IsClaimedBy : List CertLine → Outcome → Type 0
IsClaimedBy lines (claims.Plan configs total) = (configs ≡ map (λ p. p.1) (chosen_of lines)) × Contains lines (Total total)
IsClaimedBy lines (claims.Infeasible year) = Contains lines (Infeasible year)

-- the lines have no fault, nothing is missing, and the certificate is what they say
pub record IsSaidBy (years width : ℕ) (lines : List CertLine) (c : CertData) : Type 0 where
  pub form : AreInForm years width lines (length lines)
  pub complete : IsComplete years lines
  pub same_years : c.years ≡ years
  pub same_width : c.width ≡ width
  pub entries : (k : ℕ) (config : List ℕ) (value : Option ℕ) → Says c k config value ↔ Contains lines (Come (k + 1) config value)
  pub claim : IsClaimedBy lines c.claim

-- the numbers of a line are in their ranges
abbrev pub AreCertLines : List CertLine → Type 0
AreCertLines lines = All IsCertLine lines

-- lines say one certificate, or have one first fault, and never both
pub record ReadingsAreOne : Type 0 where
  pub certificates : (years width : ℕ) (lines : List CertLine) (c d : CertData) → IsCertificate c → IsCertificate d → IsSaidBy years width lines c → IsSaidBy years width lines d → c ≡ d
  pub faults : (years width : ℕ) (lines : List CertLine) (n m : ℕ) → IsFormFault years width lines n → IsFormFault years width lines m → n ≡ m
  pub apart : (years width : ℕ) (lines : List CertLine) (n : ℕ) (c : CertData) → IsFormFault years width lines n → IsSaidBy years width lines c → ⊥

-- what lines say has one verdict on a table, in whichever order the names of a year are held
abbrev pub SaidVerdictsAreOne : Type 0
SaidVerdictsAreOne = (t : Table) (years width : ℕ) (lines : List CertLine) (c d : CertData) (v w : Verdict) →
    IsSaidBy years width lines c → IsSaidBy years width lines d → IsVerdict t c v → IsVerdict t d w → v ≡ w
