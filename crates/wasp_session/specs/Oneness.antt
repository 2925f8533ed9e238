-- The text of a script is one: what is told of the same lines is the same, however it was come by, and so are the
-- keys that they demand. This program's own.
use Rattle.std.specs.Prelude.{◌≡◌, ◌↔◌, List, ◌++◌, Contains, length}
use Rattle.deck_check.specs.Readings.{Says}
use Rattle.deck_lines.specs.declared.line.Line.{Line}
use Rattle.report_text.specs.declared.verdicts.Judged.{Judged}
use Rattle.sim_engine.specs.Engine.{Run}
use Rattle.deck_tellings.specs.Checks.{IsJudged, Open}
use Rattle.wasp_session.specs.Tasks.{AreKeys, AreTold, AreToldAfter, TellingGoesOn, task_of}
use Rattle.deck_tellings.specs.Told.{Told, joined}
use Rattle.wasp_session.specs.declared.command.Command.{Command}

-- one thing is said of a certificate on a deck
abbrev pub JudgementsAreOne : Type 0
JudgementsAreOne = (d : Says) (o : Open) (one other : Judged) → IsJudged d o one → IsJudged d o other → one ≡ other

-- one text is told of lines, with one number of details and one count of NOs
abbrev pub TellingsAreOne : Type 0
TellingsAreOne = (command : Command) (ls : List Line) (one other : Told)
    → AreTold (task_of command) ls one → AreTold (task_of command) ls other → one ≡ other

-- the keys of one list are those of the other, and as many
pub record AreSameKeys (one other : List Run) : Type 0 where
  pub many : length one ≡ length other
  pub each : (key : Run) → Contains one key ↔ Contains other key

-- lines demand one set of keys
abbrev pub KeyListsAreOne : Type 0
KeyListsAreOne = (command : Command) (ls : List Line) (one other : List Run)
    → AreKeys (task_of command) ls one → AreKeys (task_of command) ls other → AreSameKeys one other

-- what is told begins with what is told of the first lines, and goes on with what is told of those behind them
pub record BeginsWith (command : Command) (first behind : List Line) (told : Told) : Type 0 where
  pub front : Told
  pub is_front : AreTold (task_of command) first front
  pub rest : Told
  pub is_rest : AreToldAfter (task_of command) first behind rest
  pub is : told ≡ joined front rest

abbrev pub TellingOfAFront : Type 0
TellingOfAFront = (command : Command) (first behind : List Line) (told : Told)
    → AreTold (task_of command) (first ++ behind) told → BeginsWith command first behind told

-- what is told of a line comes behind what was told of the lines before it
abbrev pub TellingsGoOn : Type 0
TellingsGoOn = (command : Command) → TellingGoesOn (task_of command)
