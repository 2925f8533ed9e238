-- Certificates of a case: an entry for each accepted configuration of each year, and a plan with its cost or
-- a year that has no plan. Seven conditions speak of each entry and those of its predecessors, so that one
-- who holds a certificate is sure of what it claims, whoever made it. This program's own.
--
-- Years are counted from 0, but for the year of a claim, which is counted from 1.
use Rattle.std.specs.Prelude.{◌≡◌, ℕ, zero, suc, ◌+◌, ◌<◌, ◌≤◌, ◌^◌, ◌⊎◌, List, [], length, All, Contains, IfSome, Option, Some, None, slice_index_or}
use Rattle.std.specs.Bool.{⊤}
use Rattle.std.specs.Cmp.Lexicographic.{slice_cmp}
use Rattle.std.specs.Ordering.{nat_cmp}
use Rattle.std.specs.declared.cmp.Ordering.TheVariants.{Less}
use Rattle.plant_data.specs.Configs.{IsAtMost}
use Rattle.cost_terms.specs.Cost.{nothing_built, step_cost}
use Rattle.cost_terms.specs.Table.{Table, plan_cost}
use Rattle.cost_terms.specs.declared.entries.Scored.{Scored}
use Rattle.plan_program.specs.Plans.{IsAdmissible, configs, layer_at}
use Rattle.plan_program.specs.declared.solved.Outcome.{Outcome}
use Rattle.plan_program.specs.declared.solved.Outcome.TheVariants.{Plan, Infeasible}
use Rattle.plan_certificate.specs.declared.certificate.Named.{Named}
use Rattle.plan_certificate.specs.declared.judging.Verdict.{Verdict}
use Rattle.plan_certificate.specs.declared.judging.Verdict.TheVariants.{Yes, No}

-- the number of years, the width of a configuration, for each year the configurations that are named with
-- their entries, and what is claimed
pub record CertData : Type 0 where
  pub years : ℕ
  pub width : ℕ
  pub entries : List (List Named)
  pub claim : Outcome

-- what is named in a year
abbrev pub named_in : CertData → ℕ → List Named
named_in c k = slice_index_or c.entries k []

-- the certificate has this entry for a configuration of a year
abbrev pub Says : CertData → ℕ → List ℕ → Option ℕ → Type 0
Says c k config value = Contains (named_in c k) (record { config = config; value = value })

-- ---- what is true of every certificate

-- each configuration comes, in the order of lists, after all before it, so none stands twice
abbrev pub NamesRise : List Named → Type 0
NamesRise names = (i j : ℕ) (d : Named) → i < j → j < length names →
    slice_cmp nat_cmp (slice_index_or names i d).config (slice_index_or names j d).config ≡ Less

-- a configuration of this width, with none or a number below 10^18
pub record IsNamed (candidates : ℕ) (n : Named) : Type 0 where
  pub width : length n.config ≡ candidates
  pub value : IfSome n.value (λ v. v < 10 ^ 18)

-- a plan has a configuration for each year, an infeasible year is one of the years
abbrev pub IsClaim : ℕ → ℕ → Outcome → Type 0
IsClaim years width (Plan chosen total) = (length chosen ≡ years) × All (λ (config : List ℕ). length config ≡ width) chosen × (total < 10 ^ 18)
IsClaim years width (Infeasible year) = (1 ≤ year) × (year ≤ years)

pub record IsCertificate (c : CertData) : Type 0 where
  pub years : (1 ≤ c.years) × (c.years ≤ 30)
  pub width : (1 ≤ c.width) × (c.width ≤ 14)
  pub each_year : length c.entries ≡ c.years
  pub rises : All NamesRise c.entries
  pub entries : All (λ names. All (IsNamed c.width) names) c.entries
  pub claim : IsClaim c.years c.width c.claim

-- ---- the conditions

abbrev pub IsAccepted : Table → ℕ → List ℕ → Type 0
IsAccepted t k config = (e : Scored) × Contains (layer_at t k) e × (e.config ≡ config)

-- a predecessor of a configuration, with its entry: in the first year what is built before it, with the entry
-- 0; later an accepted configuration of the year before whose counts are each at most the other's
abbrev pub Precedes : Table → CertData → ℕ → List ℕ → List ℕ → Option ℕ → Type 0
Precedes t c zero config before from = (before ≡ nothing_built t.economy) × (from ≡ Some 0)
Precedes t c (suc k) config before from = IsAccepted t k before × IsAtMost before config × Says c k before from

-- 1: the accepted configurations of all years are named, and no other
pub record NamesAccepted (t : Table) (c : CertData) : Type 0 where
  pub only : (k : ℕ) (config : List ℕ) (value : Option ℕ) → Says c k config value → IsAccepted t k config
  pub all : (k : ℕ) (config : List ℕ) → IsAccepted t k config → (value : Option ℕ) × Says c k config value

-- 2: each entry that is a number is at most every numbered predecessor's entry plus the cost of the step
abbrev pub AreBounds : Table → CertData → Type 0
AreBounds t c = (k : ℕ) (e : Scored) (before : List ℕ) (from value : ℕ) →
    Contains (layer_at t k) e → Says c k e.config (Some value) → Precedes t c k e.config before (Some from) →
    value ≤ from + step_cost t.economy (k + 1) before e.config e.row

-- 3: an entry is none only where every predecessor's entry is none
abbrev pub NoneAfterNone : Table → CertData → Type 0
NoneAfterNone t c = (k : ℕ) (e : Scored) (before : List ℕ) (from : Option ℕ) →
    Contains (layer_at t k) e → Says c k e.config None → Precedes t c k e.config before from →
    from ≡ None

-- an admissible plan of these configurations
pub record IsPlanOver (t : Table) (chosen : List (List ℕ)) (plan : List Scored) : Type 0 where
  pub admissible : IsAdmissible t plan
  pub shown : configs plan ≡ chosen

-- 4: the chosen configurations are an admissible plan
abbrev pub HasPlanOver : Table → List (List ℕ) → Type 0
HasPlanOver t chosen = (plan : List Scored) × IsPlanOver t chosen plan

-- 5: its cost is the total
abbrev pub Costs : Table → List (List ℕ) → ℕ → Type 0
Costs t chosen total = (plan : List Scored) → IsPlanOver t chosen plan → plan_cost t.economy plan ≡ total

-- 6: the total is at most each numbered entry of the last year
abbrev pub IsAtMostLast : CertData → ℕ → Type 0
IsAtMostLast c total = (k : ℕ) (config : List ℕ) (value : ℕ) → k + 1 ≡ c.years → Says c k config (Some value) → total ≤ value

-- 7: each entry of the infeasible year is none
abbrev pub IsNoneIn : CertData → ℕ → Type 0
IsNoneIn c year = (k : ℕ) (config : List ℕ) (value : Option ℕ) → k + 1 ≡ year → Says c k config value → value ≡ None

-- ---- the verdict

-- the condition fails and gives its number, or it holds and the others decide
abbrev pub First : ℕ → Type 0 → (Verdict → Type 0) → Verdict → Type 0
First number holds rest verdict = ((holds → ⊥) × (verdict ≡ No number)) ⊎ (holds × rest verdict)

abbrev pub IsYes : Verdict → Type 0
IsYes verdict = verdict ≡ Yes

-- a plan is looked at by 4, 5 and 6, an infeasible year by 7
abbrev pub IsVerdictOn : Table → CertData → Outcome → Verdict → Type 0
IsVerdictOn t c (Plan chosen total) = First 4 (HasPlanOver t chosen) (First 5 (Costs t chosen total) (First 6 (IsAtMostLast c total) IsYes))
IsVerdictOn t c (Infeasible year) = First 7 (IsNoneIn c year) IsYes

abbrev pub IsVerdict : Table → CertData → Verdict → Type 0
IsVerdict t c = First 1 (NamesAccepted t c) (First 2 (AreBounds t c) (First 3 (NoneAfterNone t c) (IsVerdictOn t c c.claim)))

-- a certificate has one verdict
abbrev pub VerdictsAreOne : Type 0
VerdictsAreOne = (t : Table) (c : CertData) (v w : Verdict) → IsVerdict t c v → IsVerdict t c w → v ≡ w
