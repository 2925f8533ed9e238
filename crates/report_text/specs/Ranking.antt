-- What `best K` writes of a PLAN line: the best plans of each case with their costs, in order. This program's own.
use Rattle.std.specs.Prelude.{ℕ, List, [], ◌∷◌, ◌++◌, codes, decimal}
use Rattle.std.specs.List.{flat_map, enumerate_from}
use Rattle.best_plans.specs.declared.ranked.Ranked.{Ranked}
use Rattle.plan_program.specs.declared.solved.Outcome.{Outcome}
use Rattle.report_text.specs.Lines.{line}
use Rattle.report_text.specs.Refusals.{refusal_line}
use Rattle.report_text.specs.Report.{chosen_line, outcome_line}
use Rattle.report_text.specs.declared.refusals.Refusal.{Refusal}

-- the n-th PLAN of a script of `best`
abbrev pub best_heading : ℕ → List ℕ
best_heading n = line (codes "BEST") (decimal n ∷ [])

-- the configurations of a plan, year by year
abbrev pub chosen_lines : List (List ℕ) → List ℕ
chosen_lines configs = flat_map (λ p. chosen_line p.0 p.1) (enumerate_from 1 configs)

-- the plan of a rank, with its cost in dollars of present worth
abbrev pub rank_text : ℕ → Ranked → List ℕ
rank_text i r = line (codes "RANK") (decimal i ∷ decimal r.total ∷ []) ++ chosen_lines r.configs

-- plans in their order, by their ranks from 1
abbrev pub ranked_text : List Ranked → List ℕ
ranked_text ranking = flat_map (λ p. rank_text p.0 p.1) (enumerate_from 1 ranking)

-- the ranked plans of a case; where there is none, the first year that no plan reaches
abbrev pub ranks_text : Outcome → List Ranked → List ℕ
ranks_text outcome [] = outcome_line outcome
ranks_text outcome (first ∷ others) = ranked_text (first ∷ others)

-- what each case begins with
abbrev pub case_head : ℕ → List ℕ
case_head c = line (codes "CASE") (decimal c ∷ [])

abbrev pub ranking_text : ℕ → Outcome → List Ranked → List ℕ
ranking_text c outcome ranking = case_head c ++ ranks_text outcome ranking

-- a case with a year over a limit
abbrev pub over_text : ℕ → Refusal → List ℕ
over_text c refusal = case_head c ++ refusal_line refusal
