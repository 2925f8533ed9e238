-- What is said and was done for the lines of a script: each key that they demand is simulated once by one of the
-- engines, and the first details each year of a chosen plan. This program's own.
use Rattle.std.specs.Prelude.{◌≡◌, ℕ, ◌+◌, ◌*◌, ◌≤◌, List, [], length, map}
use Rattle.deck_lines.specs.declared.line.Line.{Line}
use Rattle.sim_engine.specs.Engine.{Run, Work, raised}
use Rattle.sim_sweep.specs.Works.{HaveWorked}
use Rattle.wasp_session.specs.Follows.{Follows}
use Rattle.wasp_session.specs.State.{State, begun, open_count}
use Rattle.wasp_session.specs.Tasks.{AreTold, task_of}
use Rattle.deck_tellings.specs.Told.{Told}
use Rattle.wasp_session.specs.declared.command.Command.{Command}
use Rattle.wasp_session.specs.declared.command.Command.TheVariants as commands

-- ---- what engines have done, and how many rows were counted

pub record Effort : Type 0 where
  pub works : List Work
  pub tally : ℕ

abbrev pub effort_by : {X : Type 0} → (X → Work) → List X → ℕ → Effort
effort_by work es tally = record { works = map work es; tally = tally }

-- the engines simulated these keys together, each once by one of them, the first detailed so many years, and nothing
-- else was done; the count rose by the keys
pub record IsSpent (keys : List Run) (years : ℕ) (before now : Effort) : Type 0 where
  pub worked : HaveWorked keys years before.works now.works
  pub tally : now.tally ≡ raised (length keys) before.tally

-- ---- a session behind lines

-- the most rows of so many lines
abbrev pub most_rows : Command → ℕ → ℕ
most_rows commands.Plan n = 120000 * n
most_rows commands.Check n = 120000 * n
most_rows commands.Search n = 2400000 * n
most_rows (commands.Best k) n = 120000 * n

-- each PLAN and each CHECK so far has taken in at most 30 systems and so many rows; an open CHECK none
pub record HasTaken (s : State) : Type 0 where
  pub systems : length s.memory.shelf.book + 30 * open_count s.opened ≤ 30 * (s.plans + s.checks)
  pub rows : length s.memory.shelf.kept + most_rows s.command (open_count s.opened)
      ≤ most_rows s.command (s.plans + s.checks)

-- none yet
abbrev pub HasBegun : State → Type 0
HasBegun s = s ≡ begun s.command []

-- what is said and was done behind the lines that a session of a command has gone through
pub record HasRun (command : Command) (read : List Line) (s : State) (said : List ℕ) (start now : Effort) : Type 0 where
  pub told : Told
  pub is_told : AreTold (task_of command) read told
  pub text : said ≡ told.text
  pub nos : s.nos ≡ told.nos
  pub keys : List Run
  pub follows : Follows (task_of command) read keys s
  pub spent : IsSpent keys told.details start now
