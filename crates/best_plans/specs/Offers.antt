-- Ways of coming to one place, offered in turn, and the first k of them: by cost, then by the place that
-- they come from, then by their rank there.
use Rattle.std.specs.Prelude.{◌≡◌, ℕ, ◌+◌, ◌<◌, ◌≤◌, ◌⊎◌, List, [], length, slice_index_or, Option, Some, None, take}
use Rattle.std.specs.List.{insert}
use Rattle.best_plans.specs.Best.{AreFirst}
use Rattle.best_plans.specs.declared.offers.Offer.{Offer}
use Rattle.best_plans.specs.declared.ranked.Ranked.{Ranked}
use Rattle.best_plans.specs.declared.ranked.Reached.{Reached}

abbrev pub no_offer : Offer
no_offer = record { cost = 0; place = 0; rank = 0 }

abbrev pub offer_at : List Offer → ℕ → Offer
offer_at os i = slice_index_or os i no_offer

abbrev pub reached_at : List Reached → ℕ → Reached
reached_at rs i = slice_index_or rs i (record { config = []; ways = [] })

abbrev pub ranked_at : List Ranked → ℕ → Ranked
ranked_at ws i = slice_index_or ws i (record { configs = []; total = 0 })

-- the way of a rank to a place that is reached, with what is added there
pub record IsOffer (rs : List Reached) (added : List (Option ℕ)) (o : Offer) : Type 0 where
  pub place : o.place < length rs
  pub rank : o.rank < length (reached_at rs o.place).ways
  pub adds : ℕ
  pub there : slice_index_or added o.place None ≡ Some adds
  pub costs : o.cost ≡ (ranked_at (reached_at rs o.place).ways o.rank).total + adds

-- an offer comes from a place and rank before these
abbrev pub ComesFrom : ℕ → ℕ → Offer → Type 0
ComesFrom place rank o = (o.place < place) ⊎ ((o.place ≡ place) × (o.rank < rank))

abbrev pub IsSooner : Offer → Offer → Type 0
IsSooner o p = (o.cost < p.cost) ⊎ ((o.cost ≡ p.cost) × ComesFrom p.place p.rank o)

-- the first k offers from before a place and rank
abbrev pub AreOffers : ℕ → List Reached → List (Option ℕ) → ℕ → ℕ → List Offer → Type 0
AreOffers k rs added place rank os = AreFirst IsSooner (λ o. IsOffer rs added o × ComesFrom place rank o) no_offer k os

-- an offer is put before the first that costs more, and what then stands past the k-th goes
pub record IsPut (k : ℕ) (o : Offer) (old new : List Offer) : Type 0 where
  pub place : ℕ
  pub within : place ≤ length old
  pub below : (i : ℕ) → i < place → (offer_at old i).cost ≤ o.cost
  pub above : place < length old → o.cost < (offer_at old place).cost
  pub is : new ≡ take k (insert old place o)

-- costs stay below 2^64 where they are added
abbrev pub AreLow : List Reached → ℕ → Type 0
AreLow rs bound = (i j : ℕ) → (ranked_at (reached_at rs i).ways j).total ≤ bound
