-- What callers see of a session. This program's own.
use Rattle.std.specs.Prelude.{◌≡◌, ℕ, ◌+◌, ◌≤◌, Bool, false, List, [], ◌∷◌, Option, None, Some}
use Rattle.deck_lines.specs.Deck.{changed}
use Rattle.deck_lines.specs.declared.line.Line.{Line}
use Rattle.deck_lines.specs.declared.statement.Statement.{Statement}
use Rattle.row_shelf.specs.Shelf.{IsShelf}
use Rattle.deck_tellings.specs.Checks.{Open, check_count, open_behind}
use Rattle.wasp_session.specs.Modes.{HasPlans, IsCommand}
use Rattle.wasp_session.specs.Tasks.{plan_count}
use Rattle.wasp_session.specs.declared.command.Command.{Command}
use Rattle.wasp_session.specs.declared.command.Command.TheVariants as commands
use Rattle.deck_tellings.specs.Memory.{MemoryIs, no_memory}

-- what it is for, the deck as edited so far, the memory, the numbers of PLAN and CHECK lines, the open CHECK, how many
-- checks said NO, and whether memory was wanting
pub record State : Type 0 where
  pub command : Command
  pub deck : List Statement
  pub memory : MemoryIs
  pub plans : ℕ
  pub checks : ℕ
  pub opened : Option Open
  pub nos : ℕ
  pub refused : Bool

-- one of a deck, before any line
abbrev pub begun : Command → List Statement → State
begun command deck = record {
  command = command;
  deck = deck;
  memory = no_memory;
  plans = 0;
  checks = 0;
  opened = None;
  nos = 0;
  refused = false;
}

-- one CHECK is open, or none
abbrev pub open_count : Option Open → ℕ
open_count None = 0
open_count (Some o) = 1

-- what is true of every session
pub record IsState (s : State) : Type 0 where
  pub shelf : IsShelf s.memory.shelf
  pub command : IsCommand s.command
  pub plan : HasPlans s.command → (s.checks ≡ 0) × (s.opened ≡ None)
  pub check : s.command ≡ commands.Check → s.plans ≡ 0
  pub nos : s.nos + open_count s.opened ≤ s.checks
  pub few : s.plans ≤ 64
  pub few_checks : s.checks ≤ 64

-- the state behind a line, but for what the line adds to the memory and to the NOs
abbrev pub behind : State → Line → State
behind s line = record s {
  deck = changed s.deck line;
  plans = s.plans + plan_count (line ∷ []);
  checks = s.checks + check_count (line ∷ []);
  opened = open_behind s.opened line;
}
