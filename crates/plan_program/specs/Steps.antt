-- One year's step of the dynamic program: from what is reached before it to the costs-to-come of its entries.
-- Costs of a year below 2 * 10^16 keep all sums of 30 years below 10^18.
use Rattle.std.specs.Prelude.{◌≡◌, ℕ, ◌+◌, ◌-◌, ◌*◌, ◌^◌, ◌<◌, ◌≤◌, List, [], length, slice_index_or, Option, Some, None, min, ◌⊎◌}
use Rattle.std.specs.Bool.{⊤}
use Rattle.cost_terms.specs.Cost.{build, fuel, salvage, step_cost, stock, unserved, upkeep}
use Rattle.cost_terms.specs.CostData.{Fits}
use Rattle.cost_terms.specs.Table.{Table}
use Rattle.cost_terms.specs.declared.entries.Scored.{Scored}
use Rattle.cost_terms.specs.declared.prices.CostData.{CostData}
use Rattle.plant_data.specs.Configs.{IsAtMost}
use Rattle.plant_data.specs.declared.row.Row.{Row}
use Rattle.plan_program.specs.CostToCome.{AreSmall, come_at}
use Rattle.plan_program.specs.Plans.{entry_at, layer_at}
use Rattle.plan_program.specs.Ways.{IsWay, IsWayCost, last_config, way_cost}
use Rattle.plan_program.specs.declared.come.Reached.{Reached}

-- what the additions of a year cost, and what running it costs
abbrev pub built : CostData → ℕ → List ℕ → List ℕ → ℕ
built c year before after = build c year before after - salvage c year before after + stock c year before after

abbrev pub running : CostData → ℕ → List ℕ → Row → ℕ
running c year config row = fuel c year row + upkeep c year config row + unserved c year row

-- the lesser of two costs, the first of which may be wanting
abbrev pub lesser_of : Option ℕ → ℕ → ℕ
lesser_of None cost = cost
lesser_of (Some other) cost = min other cost

-- a cost with another added
abbrev pub raised : Option ℕ → ℕ → Option ℕ
raised None cost = None
raised (Some other) cost = Some (other + cost)

abbrev pub reached_at : List Reached → ℕ → Reached
reached_at rs i = slice_index_or rs i (record { config = []; cost = 0 })

-- some way of so many years comes to this configuration at this cost
pub record HasWay (t : Table) (years : ℕ) (r : Reached) : Type 0 where
  pub way : List Scored
  pub is_way : IsWay t way
  pub long : length way ≡ years
  pub last : last_config t.economy way ≡ r.config
  pub costs : way_cost t.economy way ≡ r.cost

-- one of what is reached stands where a way ends, and costs no more
pub record IsMet (t : Table) (rs : List Reached) (way : List Scored) : Type 0 where
  pub place : ℕ
  pub within : place < length rs
  pub same : (reached_at rs place).config ≡ last_config t.economy way
  pub cheap : (reached_at rs place).cost ≤ way_cost t.economy way

-- what is reached after so many years
pub record AreReached (t : Table) (years : ℕ) (rs : List Reached) : Type 0 where
  pub has : (i : ℕ) → i < length rs → HasWay t years (reached_at rs i)
  pub all : (way : List Scored) → IsWay t way → length way ≡ years → IsMet t rs way
  pub fit : (i : ℕ) → i < length rs → Fits t.economy (reached_at rs i).config
  pub small : (i : ℕ) → i < length rs → (reached_at rs i).cost ≤ years * (2 * 10 ^ 16)

-- coming to a configuration from one of what is reached
pub record ComesFrom (c : CostData) (year : ℕ) (rs : List Reached) (n : ℕ) (config : List ℕ) (cost : ℕ) : Type 0 where
  pub place : ℕ
  pub within : place < n
  pub grows : IsAtMost (reached_at rs place).config config
  pub costs : (reached_at rs place).cost + built c year (reached_at rs place).config config ≡ cost

-- the least cost of coming to a configuration from the first n of what is reached
abbrev pub IsLeastFrom : CostData → ℕ → List Reached → ℕ → List ℕ → Option ℕ → Type 0
IsLeastFrom c year rs n config None = (i : ℕ) → i < n → IsAtMost (reached_at rs i).config config → ⊥
IsLeastFrom c year rs n config (Some cost) =
    ComesFrom c year rs n config cost
    × ((i : ℕ) → i < n → IsAtMost (reached_at rs i).config config → cost ≤ (reached_at rs i).cost + built c year (reached_at rs i).config config)

-- an entry with a cost is among what is reached, and the other way round
pub record StandsFor (layer : List Scored) (come : List (Option ℕ)) (n : ℕ) (r : Reached) : Type 0 where
  pub place : ℕ
  pub within : place < n
  pub same : (entry_at layer place).config ≡ r.config
  pub costs : slice_index_or come place None ≡ Some r.cost

pub record IsAmong (rs : List Reached) (config : List ℕ) (cost : ℕ) : Type 0 where
  pub place : ℕ
  pub within : place < length rs
  pub same : (reached_at rs place).config ≡ config
  pub costs : (reached_at rs place).cost ≡ cost

-- the entries with a cost among the first n of a layer
pub record AreNumbered (layer : List Scored) (come : List (Option ℕ)) (n : ℕ) (rs : List Reached) : Type 0 where
  pub stand : (j : ℕ) → j < length rs → StandsFor layer come n (reached_at rs j)
  pub all : (i cost : ℕ) → i < n → slice_index_or come i None ≡ Some cost → IsAmong rs (entry_at layer i).config cost

-- the entry at a place, with its cost, leads to an entry of the next year at a cost
pub record LeadsTo (c : CostData) (year : ℕ) (from : Scored) (come : Option ℕ) (e : Scored) (cost : ℕ) : Type 0 where
  pub before : ℕ
  pub has : come ≡ Some before
  pub grows : IsAtMost from.config e.config
  pub costs : before + step_cost c year from.config e.config e.row ≡ cost

-- the cost-to-come of an entry, by what is reached before its year
pub record IsRaised (c : CostData) (year : ℕ) (rs : List Reached) (e : Scored) (come : Option ℕ) : Type 0 where
  pub least : Option ℕ
  pub is_least : IsLeastFrom c year rs (length rs) e.config least
  pub adds : come ≡ raised least (running c year e.config e.row)

-- the costs of the ways to the entries of the first n years
pub record AreWayCosts (t : Table) (n : ℕ) (come : List (List (Option ℕ))) : Type 0 where
  pub years : length come ≡ n
  pub entries : (k : ℕ) → k < n → length (slice_index_or come k []) ≡ length (layer_at t k)
  pub each : (k i : ℕ) → k < n → i < length (layer_at t k) → IsWayCost t k (entry_at (layer_at t k) i) (come_at come k i)
  pub small : AreSmall come

-- some entry leads to an entry of the next year at a cost
pub record HasLead (c : CostData) (year : ℕ) (layer : List Scored) (come : List (Option ℕ)) (e : Scored) (cost : ℕ) : Type 0 where
  pub place : ℕ
  pub within : place < length layer
  pub leads : LeadsTo c year (entry_at layer place) (slice_index_or come place None) e cost

-- the first entry of the year before that leads to the entry at a place, years and places counted from 0
pub record IsBefore (t : Table) (come : List (List (Option ℕ))) (year place before : ℕ) : Type 0 where
  pub cost : ℕ
  pub has : come_at come year place ≡ Some cost
  pub within : before < length (layer_at t (year - 1))
  pub leads : LeadsTo t.economy (year + 1) (entry_at (layer_at t (year - 1)) before) (come_at come (year - 1) before) (entry_at (layer_at t year) place) cost
  pub first : (i : ℕ) → i < before → LeadsTo t.economy (year + 1) (entry_at (layer_at t (year - 1)) i) (come_at come (year - 1) i) (entry_at (layer_at t year) place) cost → ⊥

-- some entry of a year has a cost-to-come
pub record HasNumber (come : List (Option ℕ)) : Type 0 where
  pub place : ℕ
  pub cost : ℕ
  pub has : slice_index_or come place None ≡ Some cost

-- the first year, counted from 0, none of whose entries has one
pub record IsUnreached (come : List (List (Option ℕ))) (year : ℕ) : Type 0 where
  pub within : year < length come
  pub none : HasNumber (slice_index_or come year []) → ⊥
  pub first : (k : ℕ) → k < year → HasNumber (slice_index_or come k [])

-- the place of the least cost among the first n, the first of these
pub record IsLeastPlace (come : List (Option ℕ)) (n place : ℕ) (cost : ℕ) : Type 0 where
  pub has : slice_index_or come place None ≡ Some cost
  pub within : place < n
  pub least : (i other : ℕ) → i < n → slice_index_or come i None ≡ Some other → cost ≤ other
  pub first : (i : ℕ) → i < n → slice_index_or come i None ≡ Some cost → place ≤ i

-- a cost is there, and below the least so far, which may be wanting
abbrev pub IsLess : Option ℕ → Option ℕ → Type 0
IsLess None least = ⊥
IsLess (Some cost) None = ⊤
IsLess (Some cost) (Some least) = cost < least

-- the least cost so far with one more way, where the configuration can come that way
abbrev pub IsWithWay : CostData → ℕ → Reached → List ℕ → Option ℕ → Option ℕ → Type 0
IsWithWay c year from config least new =
    (IsAtMost from.config config × (new ≡ Some (lesser_of least (from.cost + built c year from.config config))))
    ⊎ ((IsAtMost from.config config → ⊥) × (new ≡ least))
