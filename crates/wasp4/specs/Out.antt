-- The text that a script is answered with, and the words of the command line. This program's own.
use Rattle.std.specs.Prelude.{◌≡◌, ◌≤◌, ◌&&◌, ℕ, ◌⊎◌, List, [], ◌∷◌, ◌++◌, length, Option, None, Some, codes, nat_le, if◌then◌else◌}
use Rattle.std.specs.Str.{bytes_eq}
use Rattle.deck_lines.specs.Words.{number_of}
use Rattle.deck_lines.specs.declared.line.Line.{Line}
use Rattle.report_text.specs.Lines.{keys_line}
use Rattle.report_text.specs.Refusals.{malformed_line}
use Rattle.sim_engine.specs.Engine.{Run}
use Rattle.wasp_session.specs.Modes.{IsCommand}
use Rattle.wasp_session.specs.Tasks.{AreKeys, AreTold, task_of}
use Rattle.deck_tellings.specs.Told.{Told}
use Rattle.wasp_session.specs.declared.command.Command.{Command}
use Rattle.wasp_session.specs.declared.command.Command.TheVariants as commands
use Rattle.wasp4.specs.Going.{Effort, IsSpent}
use Rattle.wasp4.specs.Script.{Malformed, Script}
use Rattle.wasp4.specs.declared.asked.Asked.{Asked}
use Rattle.wasp4.specs.declared.asked.Asked.TheVariants.{Best, Check, Plan, Search}

-- the closing: the malformed line, where there is one, and the number of keys
abbrev pub closing : Option Malformed → ℕ → List ℕ
closing None keys = keys_line keys
closing (Some m) keys = malformed_line m.line m.fault ++ keys_line keys

-- The headline: what is said is the reports of the PLAN lines, or what the checks say of their certificates, each on
-- the deck as edited so far, and the closing; each demanded key was simulated once by one of the engines, and the number
-- that is printed is theirs.
pub record IsAnswered (command : Command) (script : Script) (said : List ℕ) (start now : Effort) : Type 0 where
  pub told : Told
  pub is_told : AreTold (task_of command) script.lines told
  pub keys : List Run
  pub are_keys : AreKeys (task_of command) script.lines keys
  pub text : said ≡ told.text ++ closing script.malformed (length keys)
  pub spent : IsSpent keys told.details start now

-- a front of what is told of the first lines of a script
pub record IsToldFront (command : Command) (script : Script) (said : List ℕ) : Type 0 where
  pub read : List Line
  pub rest : List Line
  pub lines : script.lines ≡ read ++ rest
  pub told : Told
  pub is_told : AreTold (task_of command) read told
  pub more : List ℕ
  pub front : told.text ≡ said ++ more

-- a front of the whole text
pub record IsWholeFront (command : Command) (script : Script) (said : List ℕ) : Type 0 where
  pub told : Told
  pub is_told : AreTold (task_of command) script.lines told
  pub keys : List Run
  pub are_keys : AreKeys (task_of command) script.lines keys
  pub more : List ℕ
  pub front : told.text ++ closing script.malformed (length keys) ≡ said ++ more

abbrev pub IsFront : Command → Script → List ℕ → Type 0
IsFront command script said = IsToldFront command script said ⊎ IsWholeFront command script said

-- ---- the words of the command line

-- the number of engines that a word asks for, from 1 to 64
abbrev pub workers_within : Option ℕ → Option Asked
workers_within None = None
workers_within (Some n) = if nat_le 1 n && nat_le n 64 then Some (Plan n) else None

-- the number of plans that a word asks for, from 1 to 10
abbrev pub plans_within : Option ℕ → Option Asked
plans_within None = None
plans_within (Some n) = if nat_le 1 n && nat_le n 10 then Some (Best n) else None

-- what one word asks for, and two: `best K`, and three: `plan --workers N`
abbrev pub asked_alone : List ℕ → Option Asked
asked_alone word =
    if bytes_eq word (codes "plan") then Some (Plan 1)
    else if bytes_eq word (codes "check") then Some Check
    else if bytes_eq word (codes "search") then Some Search else None

abbrev pub asked_of_two : List ℕ → List ℕ → Option Asked
asked_of_two word number = if bytes_eq word (codes "best") then plans_within (number_of number) else None

abbrev pub asked_of_three : List ℕ → List ℕ → List ℕ → Option Asked
asked_of_three word option number =
    if bytes_eq word (codes "plan") && bytes_eq option (codes "--workers") then workers_within (number_of number) else None

-- what the words ask for
abbrev pub asked_by : List (List ℕ) → Option Asked
asked_by [] = None
asked_by (word ∷ []) = asked_alone word
asked_by (word ∷ number ∷ []) = asked_of_two word number
asked_by (word ∷ option ∷ number ∷ []) = asked_of_three word option number
asked_by (word ∷ option ∷ number ∷ other ∷ words) = None

-- the command, and how many engines work: the first so many
abbrev pub command_of : Asked → Command
command_of (Plan n) = commands.Plan
command_of Check = commands.Check
command_of Search = commands.Search
command_of (Best k) = commands.Best k

abbrev pub used : Asked → ℕ
used (Plan n) = n
used Check = 1
used Search = 1
used (Best k) = 1

-- from 1 to 64 engines, and a command in its range
pub record IsAsked (asked : Asked) : Type 0 where
  pub some : 1 ≤ used asked
  pub most : used asked ≤ 64
  pub command : IsCommand (command_of asked)

-- the same where there are as many engines
abbrev pub with_engines : ℕ → Option Asked → Option Asked
with_engines engines None = None
with_engines engines (Some asked) = if nat_le (used asked) engines then Some asked else None

abbrev pub accepted : List (List ℕ) → ℕ → Option Asked
accepted words engines = with_engines engines (asked_by words)

-- the points that `hours N` asks for: a number of one word, from 2 to 64
abbrev pub points_within : Option ℕ → Option ℕ
points_within None = None
points_within (Some n) = if nat_le 2 n && nat_le n 64 then Some n else None

abbrev pub points_behind : List ℕ → List ℕ → Option ℕ
points_behind word number = if bytes_eq word (codes "hours") then points_within (number_of number) else None

-- what the words ask for of hourly loads, for which no engine works
abbrev pub hours_points : List (List ℕ) → Option ℕ
hours_points [] = None
hours_points (word ∷ []) = None
hours_points (word ∷ number ∷ []) = points_behind word number
hours_points (word ∷ number ∷ other ∷ words) = None

abbrev pub usage_text : List ℕ
usage_text = codes "USAGE plan [--workers N] | check | trial SEED YEARS CANDIDATES | search | best K | hours N\n"
