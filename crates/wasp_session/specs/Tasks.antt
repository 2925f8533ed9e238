-- What a command does with the lines of a script, in order, on the deck as edited so far: what is told of each line and
-- which keys it demands. A command is a value of one record, so that what is said of scripts is said once. This
-- program's own.
use Rattle.std.specs.Prelude.{◌≡◌, ◌≢◌, ℕ, ◌+◌, ◌⊎◌, ◌↔◌, AllPairs, Contains, List, [], ◌∷◌, ◌++◌, length}
use Rattle.deck_check.specs.DeckFault.{HasNoFault}
use Rattle.deck_check.specs.Readings.{Says}
use Rattle.deck_lines.specs.Deck.{deck_at}
use Rattle.deck_lines.specs.declared.line.Line.{Line}
use Rattle.deck_lines.specs.declared.line.Line.TheVariants as lines
use Rattle.report_text.specs.Lines.{heading, keys_line}
use Rattle.report_text.specs.Ranking.{best_heading}
use Rattle.report_text.specs.Rounds.{search_heading}
use Rattle.sim_engine.specs.Engine.{Run}
use Rattle.deck_tellings.specs.Checks.{check_count, open_at}
use Rattle.case_study.specs.Keys.{Demands}
use Rattle.deck_tellings.specs.Checks.{DemandsAtEnd}
use Rattle.case_study.specs.Listings.{IsTaken}
use Rattle.deck_tellings.specs.Ranks.{BestDemands, IsBestTold, IsDeckRanked}
use Rattle.deck_tellings.specs.Rounds.{IsDeckSearched, IsSearchTold, SearchDemands}
use Rattle.deck_tellings.specs.Said.{IsCheckTold, IsDeckTold, IsPlanTold}
use Rattle.deck_tellings.specs.Told.{AreJoined, Told, joined, nothing, plain}
use Rattle.wasp_session.specs.declared.command.Command.{Command}
use Rattle.wasp_session.specs.declared.command.Command.TheVariants as commands

-- ---- a command

-- How its script is read; what is told of the n-th PLAN line on a deck, whether anything is taken from the deck, and
-- the keys that this line demands.
pub record Task : Type 1 where
  pub command : Command
  pub tells : ℕ → Says → Told → Type 0
  pub takes : Says → Type 0
  pub asks : Says → Run → Type 0

abbrev pub plan_task : Task
plan_task = record { command = commands.Plan; tells = IsPlanTold; takes = IsTaken; asks = Demands }

-- there is no PLAN line in its mode
abbrev pub check_task : Task
check_task =
    record { command = commands.Check; tells = λ n d told. told ≡ nothing; takes = λ d. ⊥; asks = λ d key. ⊥ }

abbrev pub search_task : Task
search_task = record { command = commands.Search; tells = IsSearchTold; takes = HasNoFault; asks = SearchDemands }

abbrev pub best_task : ℕ → Task
best_task k = record { command = commands.Best k; tells = IsBestTold k; takes = HasNoFault; asks = BestDemands }

-- that of a command
abbrev pub task_of : Command → Task
task_of commands.Plan = plan_task
task_of commands.Check = check_task
task_of commands.Search = search_task
task_of (commands.Best k) = best_task k

-- what the n-th PLAN line begins with, and what is told of its deck behind that
abbrev pub head_of : Command → ℕ → List ℕ
head_of commands.Plan n = heading n
head_of commands.Check n = []
head_of commands.Search n = search_heading n
head_of (commands.Best k) n = best_heading n

abbrev pub deck_told : Command → Says → Told → Type 0
deck_told commands.Plan d told = IsDeckTold d told
deck_told commands.Check d told = told ≡ nothing
deck_told commands.Search d told = IsDeckSearched d told
deck_told (commands.Best k) d told = IsDeckRanked k d told

-- ---- the sizes

-- the most PLAN lines of a script
abbrev pub most_plans : Command → ℕ
most_plans commands.Plan = 64
most_plans commands.Check = 64
most_plans commands.Search = 3
most_plans (commands.Best k) = 64

-- the most keys of a line: 8 cases of 30 years of 500 configurations, in at most 20 rounds of a search
abbrev pub most_keys : Command → ℕ
most_keys commands.Plan = 120000
most_keys commands.Check = 120000
most_keys commands.Search = 2400000
most_keys (commands.Best k) = 120000

-- the PLAN lines among some lines
abbrev pub plan_count : List Line → ℕ
plan_count [] = 0
plan_count (lines.Plan ∷ ls) = plan_count ls + 1
plan_count (_ ∷ ls) = plan_count ls

-- ---- the keys

-- a line behind others demands a key
abbrev pub AsksBehind : Task → List Line → Line → Run → Type 0
AsksBehind task before lines.Plan key = task.asks (deck_at before) key
AsksBehind task before lines.EndCheck key = DemandsAtEnd (deck_at before) (open_at before) key
AsksBehind task before _ key = ⊥

-- lines behind others do
abbrev pub AskAfter : Task → List Line → List Line → Run → Type 0
AskAfter task before [] key = ⊥
AskAfter task before (line ∷ ls) key = AsksBehind task before line key ⊎ AskAfter task (before ++ line ∷ []) ls key

-- the keys that the lines of a script demand, each once
pub record AreKeys (task : Task) (ls : List Line) (keys : List Run) : Type 0 where
  pub once : AllPairs (λ one other. one ≢ other) keys
  pub each : (key : Run) → Contains keys key ↔ AskAfter task [] ls key

-- ---- what is told

-- at the end, the number of the keys that were demanded
pub record IsEndTold (task : Task) (before : List Line) (told : Told) : Type 0 where
  pub keys : List Run
  pub are_keys : AreKeys task before keys
  pub is : told ≡ plain (keys_line (length keys))

-- of a line behind others
abbrev pub IsLineTold : Task → List Line → Line → Told → Type 0
IsLineTold task before lines.Plan told = task.tells (plan_count before + 1) (deck_at before) told
IsLineTold task before lines.EndCheck told = IsCheckTold (deck_at before) (check_count before) (open_at before) told
IsLineTold task before lines.End told = IsEndTold task before told
IsLineTold task before _ told = told ≡ nothing

-- of lines behind others, and of the lines of a script
abbrev pub AreToldAfter : Task → List Line → List Line → Told → Type 0
AreToldAfter task before [] told = told ≡ nothing
AreToldAfter task before (line ∷ ls) told =
    AreJoined (IsLineTold task before line) (AreToldAfter task (before ++ line ∷ []) ls) told

abbrev pub AreTold : Task → List Line → Told → Type 0
AreTold task ls told = AreToldAfter task [] ls told

-- what is told of one line more comes behind
abbrev pub TellingGoesOn : Task → Type 0
TellingGoesOn task = (ls : List Line) (line : Line) (told more : Told)
    → AreTold task ls told → IsLineTold task ls line more → AreTold task (ls ++ line ∷ []) (joined told more)
