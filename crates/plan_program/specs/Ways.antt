-- Plans from their last year back, as they are found: the same plans as lists the other way round.
use Rattle.std.specs.Prelude.{◌≡◌, ℕ, ◌+◌, ◌<◌, ◌≤◌, List, [], ◌∷◌, length, Contains, Option, Some, None, reverse}
use Rattle.std.specs.Bool.{⊤}
use Rattle.cost_terms.specs.Cost.{nothing_built, step_cost}
use Rattle.cost_terms.specs.Table.{Table}
use Rattle.cost_terms.specs.declared.entries.Scored.{Scored}
use Rattle.cost_terms.specs.declared.prices.CostData.{CostData}
use Rattle.plant_data.specs.Configs.{IsAtMost}
use Rattle.plan_program.specs.Chosen.{IsNoWorse}
use Rattle.plan_program.specs.Plans.{configs, layer_at}

-- what stands at the end of the plan: nothing built before year 1
abbrev pub last_config : CostData → List Scored → List ℕ
last_config c [] = nothing_built c
last_config c (e ∷ es) = e.config

abbrev pub IsWay : Table → List Scored → Type 0
IsWay t [] = ⊤
IsWay t (e ∷ es) = (length es < length t.layers) × Contains (layer_at t (length es)) e × IsAtMost (last_config t.economy es) e.config × IsWay t es

abbrev pub way_cost : CostData → List Scored → ℕ
way_cost c [] = 0
way_cost c (e ∷ es) = way_cost c es + step_cost c (length es + 1) (last_config c es) e.config e.row

-- the least cost of the ways to an entry over so many years before it
pub record IsLeastWay (t : Table) (years : ℕ) (e : Scored) (cost : ℕ) : Type 0 where
  pub before : List Scored
  pub way : IsWay t (e ∷ before)
  pub long : length before ≡ years
  pub costs : way_cost t.economy (e ∷ before) ≡ cost
  pub least : (other : List Scored) → IsWay t (e ∷ other) → length other ≡ years → cost ≤ way_cost t.economy (e ∷ other)

abbrev pub IsWayCost : Table → ℕ → Scored → Option ℕ → Type 0
IsWayCost t years e None = (before : List Scored) → IsWay t (e ∷ before) → length before ≡ years → ⊥
IsWayCost t years e (Some cost) = IsLeastWay t years e cost

-- the plan is no worse than any other that ends in the same entry
pub record IsBestTo (t : Table) (e : Scored) (before : List Scored) : Type 0 where
  pub way : IsWay t (e ∷ before)
  pub best : (other : List Scored) → IsWay t (e ∷ other) → length other ≡ length before → IsNoWorse t.economy (reverse (e ∷ before)) (reverse (e ∷ other))

-- the configurations of such a plan of so many years before an entry
pub record TellsBest (t : Table) (years : ℕ) (e : Scored) (shown : List (List ℕ)) : Type 0 where
  pub before : List Scored
  pub best : IsBestTo t e before
  pub long : length before ≡ years
  pub told : shown ≡ configs (reverse (e ∷ before))
