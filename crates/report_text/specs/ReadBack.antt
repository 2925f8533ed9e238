-- What a report of a case says when it is read as a certificate: its lines have no fault, and they say the
-- costs-to-come and the plan with its cost, or the year that no plan reaches. This program's own.
use Rattle.std.specs.Prelude.{◌≡◌, ◌≢◌, ◌<◌, ◌≤◌, ◌^◌, ◌⊎◌, ℕ, List, [], ◌∷◌, ◌++◌, All, length, map, codes, Ok}
use Rattle.std.specs.List.{flat_map}
use Rattle.cost_terms.specs.CostData.{greatest}
use Rattle.cost_terms.specs.Table.{IsTable}
use Rattle.checked_deck.specs.declared.names.PlantId.{PlantId}
use Rattle.checked_deck.specs.declared.names.PlantId.TheVariants as ids
use Rattle.deck_lines.specs.Grammar.{line_of}
use Rattle.deck_lines.specs.declared.line.CertLine.{CertLine}
use Rattle.deck_lines.specs.declared.line.Line.{Line}
use Rattle.deck_lines.specs.declared.line.Line.TheVariants as lines
use Rattle.deck_lines.specs.declared.line.Mode.TheVariants as modes
use Rattle.plan_certificate.specs.Certificate.{CertData, IsCertificate}
use Rattle.plan_certificate.specs.Reading.{IsSaidBy}
use Rattle.plan_certificate.specs.Truth.{IsOfSolution}
use Rattle.report_text.specs.declared.data.CaseReport.{CaseReport}
use Rattle.report_text.specs.declared.data.Generation.{Generation}
use Rattle.report_text.specs.declared.data.PlanYear.{PlanYear}
use Rattle.report_text.specs.Report.{IsCaseReport, case_text, shorts}

-- texts of lines, each with its line feed
abbrev pub lined : List (List ℕ) → List ℕ
lined texts = flat_map (λ text. text ++ codes "\n") texts

-- a line of a certificate, or one that is skipped
abbrev pub IsReported : Line → Type 0
IsReported line = (line ≡ lines.Skip) ⊎ ((l : CertLine) × (line ≡ lines.Cert l))

-- the lines of a certificate among others
abbrev pub certified_by : Line → List CertLine
certified_by (lines.Cert l) = l ∷ []
certified_by _ = []

abbrev pub certificate_in : List Line → List CertLine
certificate_in read = flat_map certified_by read

-- the text is that of lines which are read so where a certificate stands
pub record ReadsAs (text : List ℕ) (read : List Line) : Type 0 where
  pub texts : List (List ℕ)
  pub whole : text ≡ lined texts
  pub unbroken : All (λ (t : List ℕ). All (λ b. b ≢ 10) t) texts
  pub each : map (line_of modes.Certificate) texts ≡ map Ok read
  pub reported : All IsReported read

-- these lines say the solution of the report's table
pub record SaySolution (d : CaseReport) (certificate : List CertLine) : Type 0 where
  pub said : CertData
  pub is_certificate : IsCertificate said
  pub is_said : IsSaidBy (length d.table.layers) (length (greatest d.table.economy)) certificate said
  pub of_solution : IsOfSolution d.table d.solved said

-- ---- what can be printed

-- numbers of 64 bits
abbrev pub ArePrintable : List ℕ → Type 0
ArePrintable numbers = All (λ n. n < 2 ^ 64) numbers

-- 1 to 8 bytes that are printed, and no space
pub record IsPrintableName (name : List ℕ) : Type 0 where
  pub some : 1 ≤ length name
  pub short : length name ≤ 8
  pub bytes : All (λ b. (33 ≤ b) × (b ≤ 126)) name

abbrev pub id_number : PlantId → ℕ
id_number (ids.Existing p) = p
id_number (ids.Thermal k) = k
id_number (ids.Hydro g) = g

pub record IsPrintableGeneration (g : Generation) : Type 0 where
  pub id : id_number g.id < 2 ^ 64
  pub name : IsPrintableName g.name
  pub energy : g.energy < 2 ^ 64

pub record IsPrintableYear (y : PlanYear) : Type 0 where
  pub built : ArePrintable (y.built.build ∷ y.built.salvage ∷ y.built.stock ∷ [])
  pub ran : ArePrintable (y.ran.fuel ∷ y.ran.upkeep ∷ y.ran.unserved ∷ [])
  pub risk : ArePrintable (y.row.worst ∷ y.row.average ∷ y.row.unserved ∷ [])
  pub short : ArePrintable (shorts y.row)
  pub generations : All IsPrintableGeneration y.generations

-- the numbers and names of a report, besides those of its table and its solution
pub record IsPrintable (c : ℕ) (d : CaseReport) : Type 0 where
  pub number : c < 2 ^ 64
  pub years : All IsPrintableYear d.years

-- every report is read back as what was solved
abbrev pub ReportsReadBack : Type 0
ReportsReadBack = (c : ℕ) (d : CaseReport) → IsTable d.table → IsCaseReport d → IsPrintable c d
    → (read : List Line) × ReadsAs (case_text c d) read × SaySolution d (certificate_in read)
