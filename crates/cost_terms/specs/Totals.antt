-- Sums over the items that are added in a year.
use Rattle.std.specs.Prelude.{◌≡◌, ◌+◌, ◌*◌, ◌≤◌, List, sum_by}
use Rattle.wasp_fixed.specs.declared.numbers.TheConstants.{ONE}
use Rattle.cost_terms.specs.Cost.{domestic, foreign, inventory, item_salvage}
use Rattle.cost_terms.specs.declared.additions.Horizon.{Horizon}
use Rattle.cost_terms.specs.declared.additions.Item.{Item}
use Rattle.cost_terms.specs.declared.additions.Totals.{Totals}

-- `new` has what `old` has, and all the items
pub record Adds (h : Horizon) (old : Totals) (items : List Item) (new : Totals) : Type 0 where
  pub domestic : new.domestic ≡ old.domestic + sum_by domestic items
  pub foreign : new.foreign ≡ old.foreign + sum_by foreign items
  pub inventory : new.inventory ≡ old.inventory + sum_by inventory items
  pub salvage : new.salvage ≡ old.salvage + sum_by (item_salvage h) items

-- `new` has the sums of both
pub record IsSum (one other new : Totals) : Type 0 where
  pub domestic : new.domestic ≡ one.domestic + other.domestic
  pub foreign : new.foreign ≡ one.foreign + other.foreign
  pub inventory : new.inventory ≡ one.inventory + other.inventory
  pub salvage : new.salvage ≡ one.salvage + other.salvage

-- the sums are no greater than their MW allow, and salvage is no more than the investment's worth at the horizon
pub record IsWithin (h : Horizon) (t : Totals) : Type 0 where
  pub domestic : t.domestic ≤ 50000000 * t.mw
  pub foreign : t.foreign ≤ 50000000 * t.mw
  pub inventory : t.inventory ≤ 10000000 * t.mw
  pub salvage : t.salvage * ONE ≤ t.domestic * h.domestic + t.foreign * h.foreign

-- an item's fields are in their ranges
pub record IsItem (i : Item) : Type 0 where
  pub mw : i.mw ≤ 2560000
  pub capdom : i.capdom ≤ 50000
  pub capfor : i.capfor ≤ 50000
  pub stock : i.stock ≤ 10000
  pub life : (1 ≤ i.life) × (i.life ≤ 100)

-- money is worth no more at the horizon than now
pub record IsHorizon (h : Horizon) : Type 0 where
  pub domestic : h.domestic ≤ ONE
  pub foreign : h.foreign ≤ ONE

-- nothing is added
abbrev pub nothing : Totals
nothing = record { mw = 0; domestic = 0; foreign = 0; inventory = 0; salvage = 0 }
