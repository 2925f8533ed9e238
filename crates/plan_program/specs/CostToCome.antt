-- The cost-to-come of an accepted configuration of a year: the least cost among all admissible plans of the
-- years up to it that end in it, or none where there is no such plan. After DYNPRO in the IAEA's Computer
-- Manual Series No. 16.
use Rattle.std.specs.Prelude.{◌≡◌, ℕ, ◌+◌, ◌-◌, ◌^◌, ◌<◌, ◌≤◌, List, [], length, slice_index_or, Option, Some, None}
use Rattle.cost_terms.specs.Table.{Table, plan_cost}
use Rattle.cost_terms.specs.declared.entries.Scored.{Scored}
use Rattle.plan_program.specs.Plans.{IsAdmissible, entry_at, layer_at}

-- a plan of so many years that ends in an entry
pub record IsPlanTo (t : Table) (years : ℕ) (e : Scored) (plan : List Scored) : Type 0 where
  pub admissible : IsAdmissible t plan
  pub long : length plan ≡ years
  pub some : 1 ≤ years
  pub ends : entry_at plan (years - 1) ≡ e

-- there is such a plan with this cost, and none costs less
pub record IsLeastCost (t : Table) (years : ℕ) (e : Scored) (cost : ℕ) : Type 0 where
  pub plan : List Scored
  pub to : IsPlanTo t years e plan
  pub costs : plan_cost t.economy plan ≡ cost
  pub least : (other : List Scored) → IsPlanTo t years e other → cost ≤ plan_cost t.economy other

abbrev pub IsCostToCome : Table → ℕ → Scored → Option ℕ → Type 0
IsCostToCome t years e None = (plan : List Scored) → IsPlanTo t years e plan → ⊥
IsCostToCome t years e (Some cost) = IsLeastCost t years e cost

-- the cost-to-come of the entry at a place of a year's layer, both counted from 0
abbrev pub come_at : List (List (Option ℕ)) → ℕ → ℕ → Option ℕ
come_at come k i = slice_index_or (slice_index_or come k []) i None

-- one for each entry of each year
pub record AreCostsToCome (t : Table) (come : List (List (Option ℕ))) : Type 0 where
  pub years : length come ≡ length t.layers
  pub entries : (k : ℕ) → k < length t.layers → length (slice_index_or come k []) ≡ length (layer_at t k)
  pub each : (k i : ℕ) → k < length t.layers → i < length (layer_at t k) → IsCostToCome t (k + 1) (entry_at (layer_at t k) i) (come_at come k i)

-- every cost is below 10^18
abbrev pub AreSmall : List (List (Option ℕ)) → Type 0
AreSmall come = (k i cost : ℕ) → come_at come k i ≡ Some cost → cost < 10 ^ 18
