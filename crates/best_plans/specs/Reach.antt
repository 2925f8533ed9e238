-- What is reached after so many years: each configuration with the k best ways to it.
use Rattle.std.specs.Prelude.{◌≡◌, ℕ, ◌+◌, ◌*◌, ◌^◌, ◌<◌, ◌≤◌, ◌⊎◌, ◌++◌, List, [], length, map, reverse, slice_index_or, Option, Some, None}
use Rattle.std.specs.Cmp.Lexicographic.{slice_cmp}
use Rattle.std.specs.Ordering.{nat_cmp}
use Rattle.std.specs.declared.cmp.Ordering.TheVariants.{Less}
use Rattle.plant_data.specs.Configs.{IsAtMost}
use Rattle.cost_terms.specs.Cost.{step_cost}
use Rattle.cost_terms.specs.CostData.{Fits}
use Rattle.cost_terms.specs.Table.{Table}
use Rattle.cost_terms.specs.declared.entries.Scored.{Scored}
use Rattle.cost_terms.specs.declared.prices.CostData.{CostData}
use Rattle.plan_program.specs.Plans.{configs, entry_at, layer_at}
use Rattle.plan_program.specs.Ways.{IsWay, last_config, way_cost}
use Rattle.best_plans.specs.Best.{AreFirst}
use Rattle.best_plans.specs.Offers.{AreLow, ranked_at, reached_at}
use Rattle.best_plans.specs.declared.offers.Offer.{Offer}
use Rattle.best_plans.specs.declared.ranked.Ranked.{Ranked}
use Rattle.best_plans.specs.declared.ranked.Reached.{Reached}

-- of plans from their last year back
abbrev pub IsBefore : CostData → List Scored → List Scored → Type 0
IsBefore c way other =
    (way_cost c way < way_cost c other) ⊎ ((way_cost c way ≡ way_cost c other) × (slice_cmp (slice_cmp nat_cmp) (configs way) (configs other) ≡ Less))

-- a way of so many years that ends in a configuration
pub record IsWayTo (t : Table) (years : ℕ) (config : List ℕ) (way : List Scored) : Type 0 where
  pub is_way : IsWay t way
  pub long : length way ≡ years
  pub last : last_config t.economy way ≡ config

abbrev pub told : CostData → List Scored → Ranked
told c way = record { configs = configs (reverse way); total = way_cost c way }

-- the k best ways to a configuration
pub record AreWays (t : Table) (k years : ℕ) (config : List ℕ) (ranked : List Ranked) : Type 0 where
  pub ways : List (List Scored)
  pub first : AreFirst (IsBefore t.economy) (IsWayTo t years config) [] k ways
  pub tells : ranked ≡ map (told t.economy) ways

-- a way ends in one of what is reached
pub record IsMet (t : Table) (rs : List Reached) (way : List Scored) : Type 0 where
  pub place : ℕ
  pub within : place < length rs
  pub same : (reached_at rs place).config ≡ last_config t.economy way

pub record AreReached (t : Table) (k years : ℕ) (rs : List Reached) : Type 0 where
  pub start : years ≡ 0 → length rs ≤ 1
  pub rises : (i j : ℕ) → i < j → j < length rs → slice_cmp nat_cmp (reached_at rs i).config (reached_at rs j).config ≡ Less
  pub each : (i : ℕ) → i < length rs → AreWays t k years (reached_at rs i).config (reached_at rs i).ways
  pub all : (way : List Scored) → IsWay t way → length way ≡ years → IsMet t rs way
  pub fit : (i : ℕ) → i < length rs → Fits t.economy (reached_at rs i).config
  pub low : AreLow rs (years * (2 * 10 ^ 16))

-- what a step from a configuration to an entry adds, or that there is no such step
abbrev pub IsAddition : CostData → ℕ → List ℕ → Scored → Option ℕ → Type 0
IsAddition c year before e added =
    (IsAtMost before e.config × (added ≡ Some (step_cost c year before e.config e.row)))
    ⊎ ((IsAtMost before e.config → ⊥) × (added ≡ None))

-- one for each of what is reached
pub record AreAdditions (c : CostData) (year : ℕ) (rs : List Reached) (e : Scored) (added : List (Option ℕ)) : Type 0 where
  pub long : length added ≡ length rs
  pub each : (i : ℕ) → i < length rs → IsAddition c year (reached_at rs i).config e (slice_index_or added i None)

-- the way of an offer with what follows it
abbrev pub onward : List Reached → List (List ℕ) → Offer → Ranked
onward rs tail o = record { configs = (ranked_at (reached_at rs o.place).ways o.rank).configs ++ tail; total = o.cost }

-- the first entries of a layer, with the k best ways to each
pub record AreEntries (t : Table) (k year n : ℕ) (rs : List Reached) : Type 0 where
  pub long : length rs ≡ n
  pub same : (i : ℕ) → i < n → (reached_at rs i).config ≡ (entry_at (layer_at t year) i).config
  pub each : (i : ℕ) → i < n → AreWays t k (year + 1) (entry_at (layer_at t year) i).config (reached_at rs i).ways
  pub low : AreLow rs ((year + 1) * (2 * 10 ^ 16))
