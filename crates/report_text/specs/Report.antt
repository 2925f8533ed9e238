-- The report of a case: its chosen plan, year by year, or that there is none, and the cost-to-come of each
-- accepted configuration. After the report of the optimum by REPROBAT and the list of states by DYNPRO in
-- the IAEA's Computer Manual Series No. 16; the lines are this program's own.
use Rattle.std.specs.Prelude.{◌≡◌, ◌==◌, ◌+◌, ◌≤◌, ℕ, List, [], ◌∷◌, ◌++◌, All, length, map, take, Option, None, Some, codes, decimal, slice_index_or, if◌then◌else◌}
use Rattle.std.specs.List.{flat_map, enumerate_from}
use Rattle.cost_terms.specs.Table.{Table}
use Rattle.cost_terms.specs.declared.entries.Scored.{Scored}
use Rattle.cost_terms.specs.declared.terms.Built.{Built}
use Rattle.cost_terms.specs.declared.terms.Ran.{Ran}
use Rattle.checked_deck.specs.declared.names.PlantId.{PlantId}
use Rattle.checked_deck.specs.declared.names.PlantId.TheVariants as ids
use Rattle.plan_program.specs.Chosen.{IsSolution}
use Rattle.plan_program.specs.Plans.{entry_at, layer_at}
use Rattle.plan_program.specs.declared.solved.Outcome.{Outcome}
use Rattle.plan_program.specs.declared.solved.Outcome.TheVariants.{Plan, Infeasible}
use Rattle.plant_data.specs.declared.row.Row.{Row}
use Rattle.plant_data.specs.declared.row.Tunnel.{Tunnel}
use Rattle.report_text.specs.declared.data.CaseReport.{CaseReport}
use Rattle.report_text.specs.declared.data.Generation.{Generation}
use Rattle.report_text.specs.declared.data.PlanYear.{PlanYear}
use Rattle.report_text.specs.Lines.{line, number_words, texts}
use Rattle.report_text.specs.Marks.{marks}

-- ---- the lines of a year t

-- the counts of the planned configuration
abbrev pub chosen_line : ℕ → List ℕ → List ℕ
chosen_line t counts = line (codes "CHOSEN") (decimal t ∷ number_words counts)

-- where they stand in their tunnel
abbrev pub edge_line : ℕ → List ℕ → Tunnel → List ℕ → List ℕ
edge_line t greatest tunnel counts = line (codes "EDGE") (decimal t ∷ marks greatest tunnel counts ∷ [])

-- the six terms of the year's cost, in dollars of present worth at the beginning of year 1
abbrev pub terms_line : ℕ → Built → Ran → List ℕ
terms_line t built ran =
    line (codes "TERMS")
    (decimal t ∷ number_words (built.build ∷ built.salvage ∷ built.stock ∷ ran.fuel ∷ ran.upkeep ∷ ran.unserved ∷ []))

-- the loss-of-load probabilities in parts of ONE, and the energy not served in MWh
abbrev pub risk_line : ℕ → Row → List ℕ
risk_line t row = line (codes "RISK") (decimal t ∷ number_words (row.worst ∷ row.average ∷ row.unserved ∷ []))

-- the energy not served under each hydro condition, in MWh
abbrev pub shorts : Row → List ℕ
shorts row = row.short1 ∷ row.short2 ∷ row.short3 ∷ row.short4 ∷ row.short5 ∷ []

-- that of the first conditions; no line where none is to be printed
abbrev pub short_line : ℕ → ℕ → Row → List ℕ
short_line conditions t row =
    if conditions == 0 then [] else line (codes "SHORT") (decimal t ∷ number_words (take conditions (shorts row)))

-- P, T or H with the number of the plant, candidate or group
abbrev pub id_word : PlantId → List ℕ
id_word (ids.Existing p) = codes "P" ++ decimal p
id_word (ids.Thermal k) = codes "T" ++ decimal k
id_word (ids.Hydro g) = codes "H" ++ decimal g

-- what a plant, candidate or group generates in the year, in MWh
abbrev pub gen_line : ℕ → Generation → List ℕ
gen_line t g = line (codes "GEN") (decimal t ∷ id_word g.id ∷ g.name ∷ decimal g.energy ∷ [])

abbrev pub gen_lines : ℕ → List Generation → List ℕ
gen_lines t generations = flat_map (gen_line t) generations

abbrev pub year_text : ℕ → List ℕ → ℕ → PlanYear → List ℕ
year_text conditions greatest t y =
    chosen_line t y.config ++ edge_line t greatest y.tunnel y.config ++ terms_line t y.built y.ran
    ++ risk_line t y.row ++ short_line conditions t y.row ++ gen_lines t y.generations

-- ---- the costs-to-come of a year's accepted configurations, in rising order

abbrev pub cost_word : Option ℕ → List ℕ
cost_word None = codes "NONE"
cost_word (Some cost) = decimal cost

abbrev pub come_line : ℕ → List ℕ → Option ℕ → List ℕ
come_line t counts cost = line (codes "COME") (decimal t ∷ number_words counts ++ cost_word cost ∷ [])

abbrev pub come_lines : ℕ → List Scored → List (Option ℕ) → List ℕ
come_lines t layer come = texts (length layer) (λ i. come_line t (entry_at layer i).config (slice_index_or come i None))

-- those of all years
abbrev pub come_text : Table → List (List (Option ℕ)) → List ℕ
come_text table come = texts (length table.layers) (λ k. come_lines (k + 1) (layer_at table k) (slice_index_or come k []))

-- ---- the case

abbrev pub plan_text : CaseReport → List ℕ
plan_text d = flat_map (λ p. year_text d.conditions d.greatest p.0 p.1) (enumerate_from 1 d.years)

-- the cost of the plan in dollars of present worth, or the first year that no plan reaches
abbrev pub outcome_line : Outcome → List ℕ
outcome_line (Plan configs total) = line (codes "TOTAL") (decimal total ∷ [])
outcome_line (Infeasible t) = line (codes "INFEASIBLE") (decimal t ∷ [])

abbrev pub case_text : ℕ → CaseReport → List ℕ
case_text c d =
    line (codes "CASE") (decimal c ∷ []) ++ plan_text d ++ outcome_line d.solved.outcome ++ come_text d.table d.solved.come

-- ---- what is reported of a case

-- the configurations of the plan, and none where there is no plan
abbrev pub plan_of : Outcome → List (List ℕ)
plan_of (Plan configs total) = configs
plan_of (Infeasible t) = []

-- the tunnel and the greatest counts are of the candidates of the configuration
pub record HasWidths (most : List ℕ) (y : PlanYear) : Type 0 where
  pub greatest : length most ≡ length y.config
  pub least : length y.tunnel.least ≡ length y.config
  pub width : length y.tunnel.width ≡ length y.config

pub record IsCaseReport (d : CaseReport) : Type 0 where
  pub conditions : d.conditions ≤ 5
  pub solution : IsSolution d.table d.solved
  pub years : map (λ y. y.config) d.years ≡ plan_of d.solved.outcome
  pub widths : All (HasWidths d.greatest) d.years
