-- How far a script was answered, by the bytes that are ahead and those that were written, where they are told.
-- This program's own.
use Rattle.std.specs.Prelude.{◌≡◌, ◌≢◌, ℕ, ◌+◌, ◌≤◌, ◌⊎◌, List, [], ◌∷◌, ◌++◌, length, take, Option, None, Some, IfSome}
use Rattle.std.specs.List.{AllByRecursion}
use Rattle.std.specs.Io.KnownBytes.{Appends, Consumes}
use Rattle.deck_lines.specs.declared.line.Line.{Line}
use Rattle.line_reader.specs.Lines.{lines_of, unlines, IsUnbroken}
use Rattle.sim_engine.specs.Engine.{Run, Work}
use Rattle.wasp_io.specs.Causes.{Rose}
use Rattle.wasp_session.specs.State.{State}
use Rattle.wasp_session.specs.Tasks.{AreKeys, AreTold, task_of}
use Rattle.deck_tellings.specs.Told.{Told}
use Rattle.wasp_session.specs.declared.command.Command.{Command}
use Rattle.wasp4.specs.declared.asked.Asked.{Asked}
use Rattle.wasp4.specs.declared.status.Ending.{Ending}
use Rattle.wasp4.specs.declared.status.Ending.TheVariants as endings
use Rattle.wasp4.specs.declared.status.Status.{Status}
use Rattle.wasp4.specs.declared.status.Status.TheVariants as statuses
use Rattle.wasp4.specs.declared.status.Turn.{Turn}
use Rattle.wasp4.specs.declared.status.Turn.TheVariants as turns
use Rattle.wasp4.specs.Out.{IsAnswered, IsFront, command_of, usage_text, used}
use Rattle.wasp4.specs.Script.{Malformed, Script, script_behind, script_of}
use Rattle.wasp4.specs.Going.{Effort, HasRun, IsSpent, effort_by}

abbrev pub status_of : Ending → Status
status_of endings.Done = statuses.Done
status_of endings.CheckNo = statuses.CheckNo
status_of endings.Malformed = statuses.Malformed

-- the exit status of the program
abbrev pub exit_of : Status → ℕ
exit_of statuses.Done = 0
exit_of statuses.CheckNo = 1
exit_of statuses.Malformed = 2
exit_of statuses.BadWords = 3
exit_of statuses.OutOfMemory = 4
exit_of statuses.ReadFault = 5
exit_of statuses.WriteFault = 6

-- a script ends so: by its END, without a NO or with one, or at a malformed line
abbrev pub EndsAs : Ending → Option Malformed → ℕ → Type 0
EndsAs endings.Done malformed nos = (malformed ≡ None) × (nos ≡ 0)
EndsAs endings.CheckNo malformed nos = (malformed ≡ None) × (1 ≤ nos)
EndsAs endings.Malformed malformed nos = malformed ≢ None

-- ---- one line

-- a script whose text behind other lines begins with the bytes of this line goes on behind it
abbrev pub Leads : Command → List Line → List ℕ → Line → Type 0
Leads command read bytes line = (more : List (List ℕ)) → script_behind command read (bytes ∷ more) ≡ script_behind command (read ++ line ∷ []) more

-- it ends with this line
pub record EndsHere (command : Command) (read : List Line) (bytes : List ℕ) (said : List ℕ) (start now : Effort) (ending : Ending) : Type 0 where
  pub script : Script
  pub is : (more : List (List ℕ)) → script_behind command read (bytes ∷ more) ≡ script
  pub answered : IsAnswered command script said start now
  pub ends : EndsAs ending script.malformed answered.told.nos

-- what comes of the bytes of a line behind others
abbrev pub AnswersLine : Command → List Line → List ℕ → State → List ℕ → Effort → Effort → Turn → Type 0
AnswersLine command read bytes s said start now turns.Goes = (line : Line) × Leads command read bytes line × HasRun command (read ++ line ∷ []) s said start now
AnswersLine command read bytes s said start now (turns.Over ending) = EndsHere command read bytes said start now ending

-- ---- one turn

-- one line was taken, and the script goes on
pub record TakesLine (command : Command) (before now : Option (List ℕ)) (read : List Line) (s : State) (said : List ℕ) (start work : Effort) : Type 0 where
  pub bytes : List ℕ
  pub whole : IsUnbroken bytes
  pub taken : Consumes before now (bytes ++ 10 ∷ [])
  pub line : Line
  pub leads : Leads command read bytes line
  pub run : HasRun command (read ++ line ∷ []) s said start work

-- a part of a line was taken, and nothing behind the last line that a script may have
pub record TakesPart (command : Command) (before now : Option (List ℕ)) (read : List Line) (s : State) (said : List ℕ) (start work : Effort) : Type 0 where
  pub part : List ℕ
  pub unended : IsUnbroken part
  pub short : length part ≤ 4096
  pub taken : Consumes before now part
  pub few : (length read ≡ 100000) → part ≡ []
  pub run : HasRun command read s said start work

-- what one turn takes at most: a line with its line feed, or bytes of one up to the first that is too many
pub record IsOneLine (bytes : List ℕ) : Type 0 where
  pub line : List ℕ
  pub unbroken : IsUnbroken line
  pub short : length line ≤ 4097
  pub is : (bytes ≡ line) ⊎ (bytes ≡ line ++ 10 ∷ [])

-- the script is over: nothing is taken behind the line that ends it, and one byte at most behind the last that it may
-- have
pub record EndsIn (command : Command) (before now : Option (List ℕ)) (read : List Line) (said : List ℕ) (start work : Effort) (ending : Ending) : Type 0 where
  pub bytes : List ℕ
  pub one : IsOneLine bytes
  pub taken : Consumes before now bytes
  pub few : (length read ≡ 100000) → length bytes ≤ 1
  pub script : Script
  pub is : IfSome before (λ text. script_behind command read (lines_of text) ≡ script)
  pub answered : IsAnswered command script said start work
  pub ends : EndsAs ending script.malformed answered.told.nos

-- what one turn did, behind what was said before it: a part of a line and no text where the source failed
abbrev pub TurnFrom : Command → Option (List ℕ) → Option (List ℕ) → List Line → State → List ℕ → List ℕ → Effort → Effort → Option Turn → Type 0
TurnFrom command before now read s said text start work None = (text ≡ []) × TakesPart command before now read s said start work
TurnFrom command before now read s said text start work (Some turns.Goes) = TakesLine command before now read s (said ++ text) start work
TurnFrom command before now read s said text start work (Some (turns.Over ending)) = EndsIn command before now read (said ++ text) start work ending

-- ---- what is put

-- a front of a text was written, and more of it was to come
pub record IsCutShort (written written' : Option (List ℕ)) (text : List ℕ) : Type 0 where
  pub done : List ℕ
  pub next : ℕ
  pub rest : List ℕ
  pub wrote : Appends written written' done
  pub is : text ≡ done ++ next ∷ rest

-- what was put of a turn's text, and whether the script goes on behind it
abbrev pub PutAs : Option (List ℕ) → Option (List ℕ) → List ℕ → Option Turn → Option Status → Type 0
PutAs written written' text turn None = (turn ≡ Some turns.Goes) × Appends written written' text
PutAs written written' text turn (Some statuses.Done) = (turn ≡ Some (turns.Over endings.Done)) × Appends written written' text
PutAs written written' text turn (Some statuses.CheckNo) = (turn ≡ Some (turns.Over endings.CheckNo)) × Appends written written' text
PutAs written written' text turn (Some statuses.Malformed) = (turn ≡ Some (turns.Over endings.Malformed)) × Appends written written' text
PutAs written written' text turn (Some statuses.ReadFault) = (turn ≡ None) × Appends written written' []
PutAs written written' text turn (Some statuses.WriteFault) = (turn ≢ None) × IsCutShort written written' text
PutAs written written' text turn (Some statuses.OutOfMemory) = ⊥
PutAs written written' text turn (Some statuses.BadWords) = ⊥

-- what serving one line did: exactly its bytes were taken, and then exactly its text was put
pub record Serves (command : Command) (before now written written' : Option (List ℕ)) (read : List Line) (s : State) (said : List ℕ) (start work : Effort) (served : Option Status) : Type 0 where
  pub text : List ℕ
  pub turn : Option Turn
  pub took : TurnFrom command before now read s said text start work turn
  pub put : PutAs written written' text turn served

-- ---- many turns

-- so many lines were taken and answered
pub record Advances (command : Command) (before now written written' : Option (List ℕ)) (s : State) (start work : Effort) (n : ℕ) : Type 0 where
  pub texts : List (List ℕ)
  pub whole : AllByRecursion IsUnbroken texts
  pub taken : Consumes before now (unlines texts)
  pub read : List Line
  pub count : length read ≡ n
  pub leads : (more : List (List ℕ)) → script_behind command [] (texts ++ more) ≡ script_behind command read more
  pub said : List ℕ
  pub wrote : Appends written written' said
  pub run : HasRun command read s said start work

-- all was answered, with this ending
pub record Closes (command : Command) (before written written' : Option (List ℕ)) (start work : Effort) (ending : Ending) : Type 0 where
  pub script : Script
  pub is : IfSome before (λ text. script_of command text ≡ script)
  pub said : List ℕ
  pub wrote : Appends written written' said
  pub answered : IsAnswered command script said start work
  pub ends : EndsAs ending script.malformed answered.told.nos

-- The bytes that were taken are whole lines and a part of one, and the script isn't over behind them: it goes on with
-- whatever lines come. What was written is told of these lines.
pub record StopsBetween (command : Command) (before now written written' : Option (List ℕ)) (start work : Effort) : Type 0 where
  pub texts : List (List ℕ)
  pub whole : AllByRecursion IsUnbroken texts
  pub part : List ℕ
  pub unended : IsUnbroken part
  pub short : length part ≤ 4096
  pub taken : Consumes before now (unlines texts ++ part)
  pub read : List Line
  pub leads : (more : List (List ℕ)) → script_behind command [] (texts ++ more) ≡ script_behind command read more
  pub few : (length read ≡ 100000) → part ≡ []
  pub told : Told
  pub is_told : AreTold (task_of command) read told
  pub wrote : Appends written written' told.text
  pub keys : List Run
  pub are_keys : AreKeys (task_of command) read keys
  pub spent : IsSpent keys told.details start work

-- what was written is a front of the answer
abbrev pub StopsWithin : Command → Option (List ℕ) → Option (List ℕ) → Option (List ℕ) → Type 0
StopsWithin command before written written' = (said : List ℕ) × Appends written written' said × IfSome before (λ text. IsFront command (script_of command text) said)

-- a front of the answer was written, and a byte of it was to come
pub record StopsShort (command : Command) (before written written' : Option (List ℕ)) : Type 0 where
  pub said : List ℕ
  pub next : ℕ
  pub wrote : Appends written written' said
  pub front : IfSome before (λ text. IsFront command (script_of command text) (said ++ next ∷ []))

-- what was taken and written, by the status
abbrev pub Answers : Command → Option (List ℕ) → Option (List ℕ) → Option (List ℕ) → Option (List ℕ) → Effort → Effort → Status → Type 0
Answers command before now written written' start work statuses.Done = Closes command before written written' start work endings.Done
Answers command before now written written' start work statuses.CheckNo = Closes command before written written' start work endings.CheckNo
Answers command before now written written' start work statuses.Malformed = Closes command before written written' start work endings.Malformed
Answers command before now written written' start work statuses.ReadFault = StopsBetween command before now written written' start work
Answers command before now written written' start work statuses.WriteFault = StopsShort command before written written'
Answers command before now written written' start work statuses.OutOfMemory = StopsWithin command before written written'
Answers command before now written written' start work statuses.BadWords = ⊥

-- the same by the first engines, as many as are asked for
abbrev pub AnswersBy : {X : Type 0} → Asked → Option (List ℕ) → Option (List ℕ) → Option (List ℕ) → Option (List ℕ) → (X → Work) → List X → List X → ℕ → ℕ → Status → Type 0
AnswersBy asked before now written written' work es fs tally tally_now status =
    Answers (command_of asked) before now written written'
    (effort_by work (take (used asked) es) tally) (effort_by work (take (used asked) fs) tally_now) status

-- ---- edges that do not fail

-- The bytes that a source has left and those that a sink was given are told, and the sink's sure room holds what was
-- written before with all that is told of the script's first lines, and with the whole text.
pub record HasRoomFor (command : Command) (left written : Option (List ℕ)) (room : Option ℕ) : Type 0 where
  pub bytes : List ℕ
  pub before : List ℕ
  pub most : ℕ
  pub told : left ≡ Some bytes
  pub wrote : written ≡ Some before
  pub sure : room ≡ Some most
  pub fits : (said : List ℕ) → IsFront command (script_of command bytes) said → length before + length said ≤ most

-- ---- the usage line

-- the usage line was written and no fault counted, or a front of it where the sink failed
abbrev pub SaysUsage : Option (List ℕ) → Option (List ℕ) → ℕ → ℕ → Type 0
SaysUsage written written' faults faults' = (Appends written written' usage_text × (faults' ≡ faults)) ⊎ (IsCutShort written written' usage_text × (faults ≤ faults') × Rose faults faults')
