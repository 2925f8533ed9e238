-- What a certificate that meets its conditions is true of, said of whole plans and not of entries.
use Rattle.std.specs.Prelude.{◌≡◌, ◌↔◌, ℕ, ◌+◌, ◌<◌, ◌≤◌, List, length, Contains, Option, slice_index_or}
use Rattle.cost_terms.specs.Table.{IsTable, Table, plan_cost}
use Rattle.cost_terms.specs.declared.entries.Scored.{Scored}
use Rattle.plan_program.specs.Chosen.{HasPlan, IsSolution}
use Rattle.plan_program.specs.CostToCome.{come_at}
use Rattle.plan_program.specs.Plans.{IsAdmissible, configs, entry_at, layer_at}
use Rattle.plan_program.specs.declared.solved.Outcome.{Outcome}
use Rattle.plan_program.specs.declared.solved.Outcome.TheVariants.{Plan, Infeasible}
use Rattle.plan_program.specs.declared.solved.Solved.{Solved}
use Rattle.plan_certificate.specs.Certificate.{CertData, IsCertificate, IsVerdict, Says}
use Rattle.plan_certificate.specs.declared.judging.Verdict.TheVariants.{Yes}

-- these configurations are an admissible plan of all years that costs the total, and no other costs less
pub record IsLeastPlan (t : Table) (chosen : List (List ℕ)) (total : ℕ) : Type 0 where
  pub plan : List Scored
  pub shown : configs plan ≡ chosen
  pub admissible : IsAdmissible t plan
  pub whole : length plan ≡ length t.layers
  pub costs : plan_cost t.economy plan ≡ total
  pub least : (other : List Scored) → IsAdmissible t other → length other ≡ length t.layers → total ≤ plan_cost t.economy other

-- there is no admissible plan up to the year, so none of all years
pub record HasNoPlan (t : Table) (year : ℕ) : Type 0 where
  pub up_to : HasPlan t year → ⊥
  pub whole : HasPlan t (length t.layers) → ⊥

abbrev pub IsTrueOf : Table → Outcome → Type 0
IsTrueOf t (Plan chosen total) = IsLeastPlan t chosen total
IsTrueOf t (Infeasible year) = HasNoPlan t year

-- where all conditions hold, the claim is true
abbrev pub YesMeansTrue : Type 0
YesMeansTrue = (t : Table) (c : CertData) → IsTable t → IsCertificate c → c.years ≡ length t.layers → IsVerdict t c Yes → IsTrueOf t c.claim

-- the certificate of a solution has the costs-to-come for entries and the outcome for its claim
pub record IsOfSolution (t : Table) (s : Solved) (c : CertData) : Type 0 where
  pub years : c.years ≡ length t.layers
  pub each : (k i : ℕ) → k < length t.layers → i < length (layer_at t k) → Says c k (entry_at (layer_at t k) i).config (come_at s.come k i)
  pub only : (k : ℕ) (config : List ℕ) (value : Option ℕ) → Says c k config value → (i : ℕ) × (k < length t.layers) × (i < length (layer_at t k)) × ((entry_at (layer_at t k) i).config ≡ config) × (come_at s.come k i ≡ value)
  pub claim : c.claim ≡ s.outcome

-- it meets all conditions
abbrev pub SolutionsAreCertified : Type 0
SolutionsAreCertified = (t : Table) (s : Solved) (c : CertData) → IsTable t → IsSolution t s → IsOfSolution t s c → IsVerdict t c Yes
