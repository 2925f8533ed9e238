-- The report of a case of a deck under tunnels: the table of its accepted configurations, the solution of this table,
-- and the years of the chosen plan with their tunnels, terms, rows and generations. After the modules MERSIM, DYNPRO
-- and REPROBAT of the IAEA's Computer Manual Series No. 16.
use Rattle.std.specs.Prelude.{if◌then◌else◌, ◌≡◌, ◌==◌, ℕ, ◌+◌, ◌-◌, ◌<◌, List, [], ◌∷◌, length, map, nat_lt, Option, None, slice_index, slice_index_or}
use Rattle.std.specs.List.{filter_map, range_with_len}
use Rattle.std.specs.Option.{option_map}
use Rattle.cost_terms.specs.Cost.{build, fuel, nothing_built, salvage, stock, unserved, upkeep}
use Rattle.cost_terms.specs.declared.entries.Scored.{Scored}
use Rattle.cost_terms.specs.declared.prices.CostData.{CostData}
use Rattle.cost_terms.specs.declared.terms.Built.{Built}
use Rattle.cost_terms.specs.declared.terms.Ran.{Ran}
use Rattle.cost_terms.specs.Table.{Table}
use Rattle.checked_deck.specs.Economy.{costs}
use Rattle.checked_deck.specs.Systems.{system}
use Rattle.deck_check.specs.Readings.{Says, greatest, version, weights, years}
use Rattle.checked_deck.specs.TypedDeck.{limit, name_of}
use Rattle.checked_deck.specs.declared.names.PlantId.{PlantId}
use Rattle.checked_deck.specs.declared.names.PlantId.TheVariants as ids
use Rattle.plan_program.specs.Chosen.{IsSolution}
use Rattle.plan_program.specs.Plans.{layer_at}
use Rattle.plant_data.specs.declared.plant.Plant.{Plant}
use Rattle.report_text.specs.Report.{plan_of}
use Rattle.report_text.specs.declared.data.CaseReport.{CaseReport}
use Rattle.report_text.specs.declared.data.Generation.{Generation}
use Rattle.report_text.specs.declared.data.PlanYear.{PlanYear}
use Rattle.row_shelf.specs.Tables.{accepted_of}
use Rattle.sim_engine.specs.Generation.{generations}
use Rattle.sim_engine.specs.Row.{row_of}
use Rattle.case_study.specs.Listings.{IsListingOf, Tunnels, tunnel_at}
use Rattle.year_system.specs.Capacity.{no_group}
use Rattle.year_system.specs.System.{System}

-- what is read past the last plant
abbrev pub no_plant : Plant
no_plant = record { number = 0; units = 0; least = 0; full = 0; heat = 0; inc = 0; domestic = 0; foreign = 0; variable = 0; outage = 0; repair = 0 }

-- ---- the table

-- the accepted ones of the configurations that are listed for a case and year
pub record IsLayerOf (d : Says) (c t : ℕ) (tunnels : Tunnels) (layer : List Scored) : Type 0 where
  pub configs : List (List ℕ)
  pub listing : IsListingOf d c t (tunnel_at tunnels t) configs
  pub is : layer ≡ accepted_of (system d t) (limit d c t) configs

-- the economy of the deck with the layers of the case
pub record IsTableOf (d : Says) (c : ℕ) (tunnels : Tunnels) (table : Table) : Type 0 where
  pub economy : table.economy ≡ costs d
  pub many : length table.layers ≡ years d
  pub layers : (k : ℕ) → k < years d → IsLayerOf d c (k + 1) tunnels (layer_at table k)

-- ---- what a planned year generates

-- the existing plants with at least one unit, the thermal candidates and the hydro groups of a system, by their
-- places in this order, counted from 0
abbrev pub generator_at : System → ℕ → PlantId
generator_at s k =
    if nat_lt k (length s.existing) then ids.Existing (slice_index_or s.existing k no_plant).number else
    if nat_lt k (length s.existing + length s.thermal) then ids.Thermal ((slice_index_or s.thermal (k - length s.existing) no_plant).number - 40) else
    ids.Hydro (slice_index_or s.groups (k - length s.existing - length s.thermal) no_group).number

-- how many units of each stand, or how many projects of a group
abbrev pub standing_at : System → List ℕ → ℕ → ℕ
standing_at s counts k =
    if nat_lt k (length s.existing) then (slice_index_or s.existing k no_plant).units else
    if nat_lt k (length s.existing + length s.thermal) then slice_index counts (k - length s.existing) else
    (slice_index_or s.groups (k - length s.existing - length s.thermal) no_group).existing + slice_index counts (k - length s.existing)

-- what one generates, by its name; nothing is told where nothing of it stands
abbrev pub generation_of : Says → PlantId → ℕ → ℕ → Option Generation
generation_of d id standing energy =
    if standing == 0 then None else option_map (λ name. record { id = id; name = name; energy = energy }) (name_of d id)

abbrev pub generation_at : Says → System → List ℕ → List ℕ → ℕ → Option Generation
generation_at d s counts energies k = generation_of d (generator_at s k) (standing_at s counts k) (slice_index energies k)

-- what the configuration of a year generates
abbrev pub generations_of : Says → ℕ → List ℕ → List Generation
generations_of d t counts =
    let s = system d t in
    filter_map (generation_at d s counts (generations s counts)) (range_with_len 0 (length s.existing + length s.thermal + length s.groups))

-- ---- the chosen plan

-- what the additions of a year cost, and what running it costs
abbrev pub built_of : CostData → ℕ → List ℕ → List ℕ → Built
built_of c t before after = record { build = build c t before after; salvage = salvage c t before after; stock = stock c t before after }

abbrev pub ran_of : CostData → ℕ → PlanYear → Ran
ran_of c t y = record { fuel = fuel c t y.row; upkeep = upkeep c t y.config y.row; unserved = unserved c t y.row }

-- a planned year, behind the configuration of the year before
pub record IsYearOf (d : Says) (t : ℕ) (tunnels : Tunnels) (before : List ℕ) (y : PlanYear) : Type 0 where
  pub tunnel : y.tunnel ≡ tunnel_at tunnels t
  pub built : y.built ≡ built_of (costs d) t before y.config
  pub ran : y.ran ≡ ran_of (costs d) t y
  pub row : y.row ≡ row_of (system d t) y.config
  pub generations : y.generations ≡ generations_of d t y.config

-- the years from year t on
abbrev pub AreYearsFrom : Says → ℕ → Tunnels → List ℕ → List PlanYear → Type 0
AreYearsFrom d t tunnels before [] = Unit {0}
AreYearsFrom d t tunnels before (y ∷ ys) = IsYearOf d t tunnels before y × AreYearsFrom d (t + 1) tunnels y.config ys

-- ---- the report

-- how many conditions have their energy not served printed
abbrev pub conditions_of : Says → ℕ
conditions_of d = if version d == 1 then 0 else length (weights d)

pub record IsReportOf (d : Says) (c : ℕ) (tunnels : Tunnels) (report : CaseReport) : Type 0 where
  pub conditions : report.conditions ≡ conditions_of d
  pub greatest : report.greatest ≡ greatest d
  pub table : IsTableOf d c tunnels report.table
  pub solution : IsSolution report.table report.solved
  pub plan : map (λ y. y.config) report.years ≡ plan_of report.solved.outcome
  pub years : AreYearsFrom d 1 tunnels (nothing_built (costs d)) report.years
