-- The chosen plan: of all admissible plans of all years one with the least cost, and of these the one with the
-- least last configuration, then with the least before it, and so on backwards; or the first year that no
-- admissible plan reaches. After the optimal solution of DYNPRO in the IAEA's Computer Manual Series No. 16;
-- the choice among equal plans is this program's own.
use Rattle.std.specs.Prelude.{◌≡◌, ℕ, ◌<◌, ◌≤◌, ◌≢◌, ◌⊎◌, List, length, reverse}
use Rattle.std.specs.Cmp.Lexicographic.{slice_cmp}
use Rattle.std.specs.Ordering.{nat_cmp}
use Rattle.std.specs.declared.cmp.Ordering.TheVariants.{Greater}
use Rattle.cost_terms.specs.Table.{Table, plan_cost}
use Rattle.cost_terms.specs.declared.entries.Scored.{Scored}
use Rattle.cost_terms.specs.declared.prices.CostData.{CostData}
use Rattle.plan_program.specs.CostToCome.{AreCostsToCome}
use Rattle.plan_program.specs.Plans.{IsAdmissible, configs}
use Rattle.plan_program.specs.declared.solved.Outcome.{Outcome}
use Rattle.plan_program.specs.declared.solved.Outcome.TheVariants.{Plan, Infeasible}
use Rattle.plan_program.specs.declared.solved.Solved.{Solved}

-- the configurations from the last year back to year 1
abbrev pub backwards : List Scored → List (List ℕ)
backwards plan = reverse (configs plan)

-- a plan does not come after the other: it has the lesser last configuration, or the same and the lesser one
-- before it, and so on
abbrev pub ComesNoLater : List Scored → List Scored → Type 0
ComesNoLater plan other = slice_cmp (slice_cmp nat_cmp) (backwards plan) (backwards other) ≢ Greater

-- it costs less, or as much and does not come after the other
abbrev pub IsNoWorse : CostData → List Scored → List Scored → Type 0
IsNoWorse c plan other =
    (plan_cost c plan < plan_cost c other) ⊎ ((plan_cost c plan ≡ plan_cost c other) × ComesNoLater plan other)

pub record IsChosen (t : Table) (plan : List Scored) : Type 0 where
  pub admissible : IsAdmissible t plan
  pub whole : length plan ≡ length t.layers
  pub best : (other : List Scored) → IsAdmissible t other → length other ≡ length t.layers → IsNoWorse t.economy plan other

-- there is an admissible plan of so many years
pub record HasPlan (t : Table) (years : ℕ) : Type 0 where
  pub plan : List Scored
  pub admissible : IsAdmissible t plan
  pub long : length plan ≡ years

-- no admissible plan reaches the year, and each year before it is reached
pub record IsInfeasible (t : Table) (year : ℕ) : Type 0 where
  pub within : (1 ≤ year) × (year ≤ length t.layers)
  pub none : HasPlan t year → ⊥
  pub first : (y : ℕ) → y < year → HasPlan t y

-- the chosen plan by its configurations and its cost
pub record IsPlanOf (t : Table) (chosen : List (List ℕ)) (total : ℕ) : Type 0 where
  pub plan : List Scored
  pub is_chosen : IsChosen t plan
  pub shown : chosen ≡ configs plan
  pub costs : total ≡ plan_cost t.economy plan

abbrev pub IsOutcome : Table → Outcome → Type 0
IsOutcome t (Plan chosen total) = IsPlanOf t chosen total
IsOutcome t (Infeasible year) = IsInfeasible t year

-- what solves a table
pub record IsSolution (t : Table) (s : Solved) : Type 0 where
  pub come : AreCostsToCome t s.come
  pub outcome : IsOutcome t s.outcome

-- a table has one solution: the costs-to-come and the chosen plan are pinned, among equal plans by the order of choice
abbrev pub SolutionsAreOne : Type 0
SolutionsAreOne = (t : Table) (one other : Solved) → IsSolution t one → IsSolution t other → one ≡ other
