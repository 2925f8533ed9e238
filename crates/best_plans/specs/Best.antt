-- The k best plans: of all admissible plans of all years the first k, ordered by cost, then by the last
-- configuration, then by the one before it, and so on backwards. The order is that of the chosen plan, which
-- is the first; the list of runners-up is this program's own.
use Rattle.std.specs.Prelude.{◌≡◌, ℕ, ◌<◌, ◌≤◌, ◌⊎◌, List, [], ◌∷◌, length, map, slice_index_or, Contains}
use Rattle.std.specs.Cmp.Lexicographic.{slice_cmp}
use Rattle.std.specs.Ordering.{nat_cmp}
use Rattle.std.specs.declared.cmp.Ordering.TheVariants.{Less}
use Rattle.cost_terms.specs.Table.{Table, plan_cost}
use Rattle.cost_terms.specs.declared.entries.Scored.{Scored}
use Rattle.cost_terms.specs.declared.prices.CostData.{CostData}
use Rattle.plan_program.specs.Chosen.{HasPlan, IsPlanOf, backwards}
use Rattle.plan_program.specs.Plans.{IsAdmissible, configs}
use Rattle.best_plans.specs.declared.ranked.Ranked.{Ranked}

-- the first k, in an order, of all that are such: they are such, each comes before the next ones, and
-- whatever else is such comes after all of them, and only where they are k
pub record AreFirst {A : Type 0} (Before : A → A → Type 0) (IsSuch : A → Type 0) (none : A) (k : ℕ) (xs : List A) : Type 0 where
  pub few : length xs ≤ k
  pub each : (i : ℕ) → i < length xs → IsSuch (slice_index_or xs i none)
  pub order : (i j : ℕ) → i < j → j < length xs → Before (slice_index_or xs i none) (slice_index_or xs j none)
  pub all : (x : A) → IsSuch x → Contains xs x ⊎ ((length xs ≡ k) × ((i : ℕ) → i < length xs → Before (slice_index_or xs i none) x))

-- an admissible plan of all years
pub record IsWhole (t : Table) (plan : List Scored) : Type 0 where
  pub admissible : IsAdmissible t plan
  pub whole : length plan ≡ length t.layers

-- a plan has the lesser last configuration, or the same and the lesser one before it, and so on
abbrev pub ComesBefore : List Scored → List Scored → Type 0
ComesBefore plan other = slice_cmp (slice_cmp nat_cmp) (backwards plan) (backwards other) ≡ Less

-- it costs less, or as much and comes before the other
abbrev pub IsBetter : CostData → List Scored → List Scored → Type 0
IsBetter c plan other =
    (plan_cost c plan < plan_cost c other) ⊎ ((plan_cost c plan ≡ plan_cost c other) × ComesBefore plan other)

abbrev pub AreBest : Table → ℕ → List (List Scored) → Type 0
AreBest t k plans = AreFirst (IsBetter t.economy) (IsWhole t) [] k plans

-- a plan by its configurations and its cost
abbrev pub shown : CostData → List Scored → Ranked
shown c plan = record { configs = configs plan; total = plan_cost c plan }

-- the k best plans, by their configurations and costs
pub record IsRanking (t : Table) (k : ℕ) (ranking : List Ranked) : Type 0 where
  pub plans : List (List Scored)
  pub best : AreBest t k plans
  pub shows : ranking ≡ map (shown t.economy) plans

-- a table has one ranking
abbrev pub RankingsAreOne : Type 0
RankingsAreOne = (t : Table) (k : ℕ) (one other : List Ranked) → IsRanking t k one → IsRanking t k other → one ≡ other

-- its first is the chosen plan
abbrev pub FirstIsChosen : Table → List Ranked → Type 0
FirstIsChosen t [] = HasPlan t (length t.layers) → ⊥
FirstIsChosen t (first ∷ others) = IsPlanOf t first.configs first.total
