-- The summary of a trial: the numbers of its deck, and the cost and the last year of its plan, or the year that none
-- reaches. This program's own.
use Rattle.std.specs.Prelude.{ℕ, ◌-◌, ◌≤◌, List, [], ◌∷◌, ◌++◌, length, codes, decimal, slice_index_or}
use Rattle.plan_program.specs.declared.solved.Outcome.{Outcome}
use Rattle.plan_program.specs.declared.solved.Outcome.TheVariants.{Plan, Infeasible}
use Rattle.report_text.specs.Lines.{line, number_words}
use Rattle.report_text.specs.Report.{outcome_line}

-- the seed, the years and the candidates of the deck
abbrev pub trial_line : ℕ → ℕ → ℕ → List ℕ
trial_line seed years candidates = line (codes "TRIAL") (decimal seed ∷ decimal years ∷ decimal candidates ∷ [])

-- the configuration of a plan's last year
abbrev pub last_of : List (List ℕ) → List ℕ
last_of configs = slice_index_or configs (length configs - 1) []

abbrev pub last_line : List (List ℕ) → List ℕ
last_line configs = line (codes "LAST") (number_words (last_of configs))

-- where there is a plan
abbrev pub last_lines : Outcome → List ℕ
last_lines (Plan configs total) = last_line configs
last_lines (Infeasible t) = []

-- the cost of the plan in dollars of present worth with its last configuration, or the first year that no plan reaches
abbrev pub summary : Outcome → List ℕ
summary outcome = codes "CASE 1 " ++ outcome_line outcome ++ last_lines outcome

-- the text of a trial without the number of its keys
abbrev pub trial_text : ℕ → ℕ → ℕ → Outcome → List ℕ
trial_text seed years candidates outcome = trial_line seed years candidates ++ summary outcome

-- a plan has a year
abbrev pub HasYear : Outcome → Type 0
HasYear (Plan configs total) = 1 ≤ length configs
HasYear (Infeasible t) = Unit {0}
