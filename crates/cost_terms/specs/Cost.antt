-- The cost of a year, in dollars of present worth at the beginning of year 1: investment less salvage, plus
-- fuel inventory, fuel, other operation and maintenance, and energy not served. After the objective of DYNPRO
-- in the IAEA's Computer Manual Series No. 16. Salvage by straight line, the return of the fuel inventory at
-- the horizon, escalation, the dearer shortages and each rounding are this program's own.
--
-- Years are counted from 1. `before` and `after` are the counts at the year's beginning and with its additions.
use Rattle.std.specs.Prelude.{ℕ, zero, suc, ◌+◌, ◌-◌, ◌*◌, ◌/◌, ◌≤◌, List, [], ◌∷◌, ◌++◌, length, map, sum_by, drop, take, min, nat_eq, if◌then◌else◌, slice_index, replicate}
use Rattle.std.specs.List.{flat_map, zip}
use Rattle.plant_data.specs.declared.row.Row.{Row}
use Rattle.wasp_fixed.specs.Discounts.{end_factor, mid_factor}
use Rattle.wasp_fixed.specs.declared.numbers.TheConstants.{ONE}
use Rattle.cost_terms.specs.CostData.{greatest}
use Rattle.cost_terms.specs.declared.additions.Horizon.{Horizon}
use Rattle.cost_terms.specs.declared.additions.Item.{Item}
use Rattle.cost_terms.specs.declared.prices.CostData.{CostData}
use Rattle.cost_terms.specs.declared.prices.GroupCost.{GroupCost}
use Rattle.cost_terms.specs.declared.prices.ShortagePrice.{ShortagePrice}
use Rattle.cost_terms.specs.declared.prices.ThermalCost.{ThermalCost}

-- the price of what cost ONE in year 1 after so many years, at a rate in hundredths of a percent per year
unfoldable pub escalated : ℕ → ℕ → ℕ
escalated rate zero = ONE
escalated rate (suc years) = escalated rate years * (10000 + rate) / 10000

-- the worth of an escalated ONE in the middle of a year, so many years later
abbrev pub fuel_factor : ℕ → ℕ → ℕ → ℕ
fuel_factor rate escalation years = mid_factor rate years * escalated escalation years / ONE

-- the investment in each currency, in dollars of the year
abbrev pub domestic : Item → ℕ
domestic i = i.mw * 1000 * i.capdom

abbrev pub foreign : Item → ℕ
foreign i = i.mw * 1000 * i.capfor

-- the units of a thermal candidate that are added
abbrev pub added_units : ThermalCost → ℕ → Item
added_units p count = record { mw = count * p.full; capdom = p.capdom; capfor = p.capfor; stock = p.stock; life = p.life }

-- the projects of a group that are added: from the one after the first `existing + from` on, to the count
abbrev pub added_projects : GroupCost → ℕ → ℕ → List Item
added_projects g from to =
    map (λ p. record { mw = p.capacity; capdom = p.capdom; capfor = p.capfor; stock = 0; life = p.life }) (take (to - from) (drop (g.existing + from) g.projects))

-- each candidate with its counts before and after, thermal candidates and groups
abbrev pub thermal_steps : CostData → List ℕ → List ℕ → List (ThermalCost × (ℕ × ℕ))
thermal_steps c before after = zip c.thermal (zip before after)

abbrev pub group_steps : CostData → List ℕ → List ℕ → List (GroupCost × (ℕ × ℕ))
group_steps c before after = zip c.groups (zip (drop (length c.thermal) before) (drop (length c.thermal) after))

-- all items of a year's additions
abbrev pub items : CostData → List ℕ → List ℕ → List Item
items c before after =
    map (λ s. added_units s.0 (s.1.1 - s.1.0)) (thermal_steps c before after)
    ++ flat_map (λ s. added_projects s.0 s.1.0 s.1.1) (group_steps c before after)

-- build: investment at the beginning of the year
abbrev pub build : CostData → ℕ → List ℕ → List ℕ → ℕ
build c year before after =
    (sum_by domestic (items c before after) * end_factor c.rates.domestic (year - 1)
    + sum_by foreign (items c before after) * end_factor c.rates.foreign (year - 1)) / ONE

-- the horizon as a year sees it: the years from its beginning to the end of the last year, and the worth of
-- ONE then
abbrev pub horizon : CostData → ℕ → Horizon
horizon c year =
    record {
      ahead = c.years - year + 1;
      domestic = end_factor c.rates.domestic c.years;
      foreign = end_factor c.rates.foreign c.years;
    }

-- salvage of an item: the part of its life that lies behind the horizon, by straight line
abbrev pub item_salvage : Horizon → Item → ℕ
item_salvage h i = (domestic i * h.domestic + foreign i * h.foreign) * (i.life - h.ahead) / (i.life * ONE)

abbrev pub salvage : CostData → ℕ → List ℕ → List ℕ → ℕ
salvage c year before after = sum_by (item_salvage (horizon c year)) (items c before after)

-- the fuel inventory of an item, in dollars
abbrev pub inventory : Item → ℕ
inventory i = i.mw * 1000 * i.stock

-- stock: the fuel inventory, bought with the units and given back at the horizon
abbrev pub stock : CostData → ℕ → List ℕ → List ℕ → ℕ
stock c year before after =
    sum_by inventory (items c before after)
    * (end_factor c.rates.domestic (year - 1) - end_factor c.rates.domestic c.years) / ONE

-- fuel of a row, whose fuel is in thousandths of a cent, in the middle of the year
abbrev pub fuel : CostData → ℕ → Row → ℕ
fuel c year row =
    (row.fuel_domestic * fuel_factor c.rates.domestic c.escalation.domestic (year - 1)
    + row.fuel_foreign * fuel_factor c.rates.foreign c.escalation.foreign (year - 1)) / (100000 * ONE)

-- the fixed costs of a month per kW, times MW, of the existing plants, the thermal candidates and the projects
abbrev pub plants_fixed : CostData → ℕ → ℕ
plants_fixed c year = sum_by (λ p. slice_index p.units (year - 1) * p.full * p.fixed) c.plants

abbrev pub thermal_fixed : CostData → List ℕ → ℕ
thermal_fixed c counts = sum_by (λ e. e.1 * e.0.full * e.0.fixed) (zip c.thermal counts)

abbrev pub projects_mw : GroupCost → ℕ → ℕ
projects_mw g count = sum_by (λ p. p.capacity) (take (g.existing + count) g.projects)

abbrev pub groups_fixed : CostData → List ℕ → ℕ
groups_fixed c counts =
    sum_by (λ e. projects_mw e.0 e.1 * e.0.fixed) (zip c.groups (drop (length c.thermal) counts))

-- upkeep: twelve months of fixed cost, and the row's variable cost, in the middle of the year
abbrev pub upkeep : CostData → ℕ → List ℕ → Row → ℕ
upkeep c year counts row =
    (12000 * (plants_fixed c year + thermal_fixed c counts + groups_fixed c counts) + row.variable)
    * mid_factor c.rates.domestic (year - 1) / (100 * ONE)

-- what so many MWh not served cost in a year with a demand, in cents: the price rises with their share of the demand
abbrev pub shortage_cost : ShortagePrice → ℕ → ℕ → ℕ
shortage_cost s demand short =
    if nat_eq demand 0 then short * s.plain else
    short * (s.plain * (demand * demand) + s.linear * (demand * min short demand) + s.square * (min short demand * min short demand)) / (demand * demand)

-- energy not served under each hydro condition
abbrev pub shorts : Row → List ℕ
shorts row = row.short1 ∷ row.short2 ∷ row.short3 ∷ row.short4 ∷ row.short5 ∷ []

-- the same weighted over the conditions
abbrev pub weighted_cents : CostData → ℕ → List ℕ → ℕ
weighted_cents c demand each = sum_by (λ e. e.0 * shortage_cost c.shortage demand e.1) (zip c.weights each) / 10000

-- energy not served in cents: at the plain price in version 1, and weighted over the conditions in version 2
abbrev pub unserved_cents : CostData → ℕ → Row → ℕ
unserved_cents c year row =
    if nat_eq c.version 1 then row.unserved * c.shortage.plain else
    weighted_cents c (slice_index c.demand (year - 1)) (shorts row)

-- energy not served, in the middle of the year
abbrev pub unserved : CostData → ℕ → Row → ℕ
unserved c year row = unserved_cents c year row * mid_factor c.rates.domestic (year - 1) / (100 * ONE)

-- the cost of a year
abbrev pub step_cost : CostData → ℕ → List ℕ → List ℕ → Row → ℕ
step_cost c year before after row =
    build c year before after - salvage c year before after + stock c year before after
    + fuel c year row + upkeep c year after row + unserved c year row

-- no salvage is above its investment, since money is worth no more at the horizon
abbrev pub SalvageIsWithinBuild : Type 0
SalvageIsWithinBuild = (c : CostData) (year : ℕ) (before after : List ℕ) → year ≤ c.years → salvage c year before after ≤ build c year before after

-- the configuration before year 1
abbrev pub nothing_built : CostData → List ℕ
nothing_built c = replicate (length (greatest c)) 0
