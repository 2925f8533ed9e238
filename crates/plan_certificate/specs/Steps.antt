-- The words of the loops over a certificate's entries and over its lines.
use Rattle.std.specs.Prelude.{◌≡◌, ◌↔◌, ◌≢◌, ℕ, zero, suc, ◌+◌, ◌-◌, ◌*◌, ◌<◌, ◌≤◌, ◌^◌, List, [], ◌∷◌, length, map, take, reverse, All, Contains, IfSome, Option, Some, None, slice_index_or}
use Rattle.std.specs.Bool.{⊤}
use Rattle.cost_terms.specs.Cost.{nothing_built, step_cost}
use Rattle.cost_terms.specs.CostData.{Fits}
use Rattle.cost_terms.specs.Table.{IsEntry, Table}
use Rattle.cost_terms.specs.declared.entries.Scored.{Scored}
use Rattle.cost_terms.specs.declared.prices.CostData.{CostData}
use Rattle.plant_data.specs.Configs.{IsAtMost}
use Rattle.plan_program.specs.Plans.{configs, entry_at, layer_at}
use Rattle.plan_program.specs.Steps.{running}
use Rattle.plan_program.specs.Ways.{IsWay, last_config, way_cost}
use Rattle.plan_certificate.specs.Certificate.{CertData, Costs, HasPlanOver, Precedes, Says, named_in}
use Rattle.plan_certificate.specs.declared.certificate.Named.{Named}
use Rattle.plan_certificate.specs.declared.steps.Arrival.{Arrival}
use Rattle.plan_certificate.specs.declared.steps.Rule.{Rule}
use Rattle.plan_certificate.specs.declared.steps.Rule.TheVariants.{Bounded, Reached}

-- what is read past the last name
abbrev pub no_name : Named
no_name = record { config = []; value = None }

abbrev pub name_at : List Named → ℕ → Named
name_at names i = slice_index_or names i no_name

-- in each year those named are the accepted configurations, in the same order
abbrev pub names_of : List Named → List (List ℕ)
names_of names = map (λ n. n.config) names

abbrev pub AreAligned : Table → CertData → Type 0
AreAligned t c = (k : ℕ) → k < length t.layers → names_of (named_in c k) ≡ configs (layer_at t k)

abbrev pub IsSmall : Option ℕ → Type 0
IsSmall value = IfSome value (λ v. v < 10 ^ 18)

-- ---- an entry and one of its predecessors

-- 2: a number is at most the predecessor's with the cost of the step
abbrev pub IsBelow : Option ℕ → Option ℕ → ℕ → Type 0
IsBelow None None step = ⊤
IsBelow None (Some value) step = ⊤
IsBelow (Some from) None step = ⊤
IsBelow (Some from) (Some value) step = value ≤ from + step

-- 3: there is a number where the predecessor has one
abbrev pub IsReached : Option ℕ → Option ℕ → Type 0
IsReached None None = ⊤
IsReached None (Some value) = ⊤
IsReached (Some from) None = ⊥
IsReached (Some from) (Some value) = ⊤

abbrev pub Keeps : Rule → Option ℕ → Option ℕ → ℕ → Type 0
Keeps Bounded from value step = IsBelow from value step
Keeps Reached from value step = IsReached from value

-- a step from what is built before, with its entry, to an accepted configuration with its own
abbrev pub StepKeeps : Rule → CostData → ℕ → List ℕ → Option ℕ → Scored → Option ℕ → Type 0
StepKeeps rule c year before from e value = Keeps rule from value (step_cost c year before e.config e.row)

-- the rule holds of each entry and each of its predecessors
abbrev pub RuleHolds : Rule → Table → CertData → Type 0
RuleHolds rule t c = (k : ℕ) (e : Scored) (before : List ℕ) (from value : Option ℕ) →
    Contains (layer_at t k) e → Says c k e.config value → Precedes t c k e.config before from →
    StepKeeps rule t.economy (k + 1) before from e value

-- ---- the same by places

-- an arrival at an accepted configuration of a year with its entry, and what it costs to run it
abbrev pub arrival : CostData → ℕ → Scored → Option ℕ → Arrival
arrival c k e value = record { year = k + 1; entry = e; value = value; ran = running c (k + 1) e.config e.row }

pub record IsArrival (c : CostData) (a : Arrival) : Type 0 where
  pub first : 1 ≤ a.year
  pub last : a.year ≤ c.years
  pub entry : IsEntry c a.entry
  pub value : IsSmall a.value
  pub ran : a.ran ≡ running c a.year a.entry.config a.entry.row
  pub few : a.ran ≤ 10 ^ 16

abbrev pub KeepsFrom : Rule → CostData → List ℕ → Option ℕ → Arrival → Type 0
KeepsFrom rule c before from a = StepKeeps rule c a.year before from a.entry a.value

-- from the first n entries of the year before
abbrev pub KeepsFromFirst : Rule → CostData → List Scored → List Named → ℕ → Arrival → Type 0
KeepsFromFirst rule c layer names n a = (i : ℕ) → i < n → IsAtMost (entry_at layer i).config a.entry.config → KeepsFrom rule c (entry_at layer i).config (name_at names i).value a

abbrev pub ArrivalKeeps : Rule → Table → CertData → ℕ → Arrival → Type 0
ArrivalKeeps rule t c zero a = KeepsFrom rule t.economy (nothing_built t.economy) (Some 0) a
ArrivalKeeps rule t c (suc k) a = KeepsFromFirst rule t.economy (layer_at t k) (named_in c k) (length (layer_at t k)) a

-- the first n entries of a year
abbrev pub YearKeeps : Rule → Table → CertData → ℕ → ℕ → Type 0
YearKeeps rule t c k n = (j : ℕ) → j < n → ArrivalKeeps rule t c k (arrival t.economy k (entry_at (layer_at t k) j) (name_at (named_in c k) j).value)

-- those of the first n years
abbrev pub YearsKeep : Rule → Table → CertData → ℕ → Type 0
YearsKeep rule t c n = (k : ℕ) → k < n → YearKeeps rule t c k (length (layer_at t k))

-- ---- the chosen plan

-- a step to an accepted configuration
pub record StepsTo (t : Table) (k : ℕ) (before config : List ℕ) (cost : ℕ) : Type 0 where
  pub entry : Scored
  pub accepted : Contains (layer_at t k) entry
  pub same : entry.config ≡ config
  pub grows : IsAtMost before config
  pub costs : step_cost t.economy (k + 1) before config entry.row ≡ cost

-- a way over the first k chosen configurations, with its cost
pub record WalksTo (t : Table) (chosen : List (List ℕ)) (k : ℕ) (before : List ℕ) (cost : ℕ) : Type 0 where
  pub way : List Scored
  pub is_way : IsWay t way
  pub long : length way ≡ k
  pub told : configs (reverse way) ≡ take k chosen
  pub stands : 1 ≤ k → before ≡ slice_index_or chosen (k - 1) []
  pub last : last_config t.economy way ≡ before
  pub costs : way_cost t.economy way ≡ cost

-- the chosen configurations are a plan that costs this
abbrev pub IsCostOf : Table → List (List ℕ) → ℕ → Type 0
IsCostOf t chosen cost = HasPlanOver t chosen × Costs t chosen cost
