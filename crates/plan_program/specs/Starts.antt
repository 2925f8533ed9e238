-- What is reached before a year, in the order of potentials. Building in two steps costs at most two dollars
-- less than building at once, so the cost of a way from a start on is at least its potential with what the
-- configuration costs that it comes to, less two dollars: where the least cost so far is no higher, no later
-- start comes cheaper.
use Rattle.std.specs.Prelude.{◌≡◌, ℕ, ◌+◌, ◌-◌, ◌*◌, ◌^◌, ◌<◌, ◌≤◌, List, [], length, All, Contains, slice_index_or, Option, Some, None}
use Rattle.cost_terms.specs.StepTable.{IsStanding}
use Rattle.cost_terms.specs.declared.prices.CostData.{CostData}
use Rattle.plan_program.specs.Steps.{reached_at}
use Rattle.plan_program.specs.declared.come.Reached.{Reached}
use Rattle.plan_program.specs.declared.come.Start.{Start}

abbrev pub reached_of : Start → Reached
reached_of s = record { config = s.standing.config; cost = s.cost }

abbrev pub start_at : List Start → ℕ → Start
start_at starts i = slice_index_or starts i (record { standing = record { config = []; domestic = 0; foreign = 0; inventory = 0; projects = 0; net = 0 }; cost = 0; potential = 0 })

-- a start of a year: its potential is its cost, less what its configuration would cost if it were built now
pub record IsStart (c : CostData) (year : ℕ) (s : Start) : Type 0 where
  pub standing : IsStanding c year s.standing
  pub cost : s.cost ≤ (year - 1) * (2 * 10 ^ 16)
  pub potential : s.potential + s.standing.net ≡ s.cost + 10 ^ 16

-- the starts are the first n of what is reached, in the same order
pub record AreListed (c : CostData) (year : ℕ) (rs : List Reached) (n : ℕ) (starts : List Start) : Type 0 where
  pub long : length starts ≡ n
  pub each : (i : ℕ) → i < n → IsStart c year (start_at starts i)
  pub same : (i : ℕ) → i < n → reached_of (start_at starts i) ≡ reached_at rs i

-- a start for one of what is reached
pub record IsFrom (rs : List Reached) (s : Start) : Type 0 where
  pub place : ℕ
  pub within : place < length rs
  pub same : reached_of s ≡ reached_at rs place

pub record HasStart (starts : List Start) (r : Reached) : Type 0 where
  pub start : Start
  pub among : Contains starts start
  pub same : reached_of start ≡ r

-- the starts are those of what is reached, in some order
pub record AreStarts (c : CostData) (year : ℕ) (rs : List Reached) (starts : List Start) : Type 0 where
  pub each : All (IsStart c year) starts
  pub from : All (IsFrom rs) starts
  pub all : (i : ℕ) → i < length rs → HasStart starts (reached_at rs i)

-- no way from a potential on is cheaper than the least so far, to a configuration that costs so much if it is built at once
abbrev pub IsSettled : Option ℕ → ℕ → ℕ → Type 0
IsSettled None potential net = ⊥
IsSettled (Some cost) potential net = cost + 10 ^ 16 + 2 ≤ potential + net
