-- What a call of a session does: it tells something, learns, and leaves the state as said. This program's own.
use Rattle.std.specs.Prelude.{◌≡◌, ℕ, ◌+◌, ◌<◌, IsTrue, List, length}
use Rattle.std.specs.Prelude.{Vec}
use Rattle.deck_lines.specs.Deck.{body_of}
use Rattle.deck_lines.specs.declared.line.Line.{Line}
use Rattle.deck_lines.specs.declared.line.Line.TheVariants as lines
use Rattle.report_text.specs.Lines.{keys_line}
use Rattle.sim_engine.specs.Engine.{Run, Work}
use Rattle.deck_tellings.specs.Checks.{DemandsAtEnd, IsCheckedAtEnd}
use Rattle.deck_tellings.specs.Said.{IsCheckTold}
use Rattle.wasp_session.specs.State.{State, behind}
use Rattle.wasp_session.specs.Tasks.{most_keys, most_plans, task_of}
use Rattle.deck_tellings.specs.Told.{Told, nothing, plain}
use Rattle.deck_tellings.specs.Learning.{IsLost, Tells, HasPlaceFor}

-- ---- what a call does

-- it tells something with so many NOs, learns, and leaves the state as said
pub record Does {X Z : Type 0} (Is : Told → Type 0) (Taken : Type 0) (Asks : Run → Type 0) (after : State) (s t : State) (work : X → Work) (es fs : List X) (said said_now : Vec ℕ Z) : Type 0 where
  pub count : ℕ
  pub tells : Tells Is Taken Asks (body_of s.deck) s.memory t.memory work es fs said said_now count
  pub state : t ≡ record after { memory = t.memory; nos = s.nos + count }

-- after want of memory the deck stays, and the shelf has what it had
pub record IsWanting {X : Type 0} (Taken : Type 0) (Asks : Run → Type 0) (s t : State) (work : X → Work) (es fs : List X) : Type 0 where
  pub deck : t.deck ≡ s.deck
  pub command : t.command ≡ s.command
  pub refused : IsTrue t.refused
  pub lost : IsLost Taken Asks (body_of s.deck) s.memory t.memory work es fs

-- ---- at a line

-- what is told of a line, by the state before it
abbrev pub line_told : State → Line → Told → Type 0
line_told s lines.Plan told = (task_of s.command).tells (s.plans + 1) (body_of s.deck) told
line_told s lines.EndCheck told = IsCheckTold (body_of s.deck) s.checks s.opened told
line_told s lines.End told = told ≡ plain (keys_line (length s.memory.shelf.kept))
line_told s _ told = told ≡ nothing

-- it is a PLAN from which something is taken, or the ENDCHECK of a CHECK that is neither refused nor failed in its form
abbrev pub IsTakenAt : State → Line → Type 0
IsTakenAt s lines.Plan = (task_of s.command).takes (body_of s.deck)
IsTakenAt s lines.EndCheck = IsCheckedAtEnd (body_of s.deck) s.opened
IsTakenAt s _ = ⊥

-- the keys that it demands
abbrev pub line_asks : State → Line → Run → Type 0
line_asks s lines.Plan key = (task_of s.command).asks (body_of s.deck) key
line_asks s lines.EndCheck key = DemandsAtEnd (body_of s.deck) s.opened key
line_asks s _ key = ⊥

abbrev pub DoesLine : {X Z : Type 0} → Line → State → State → (X → Work) → List X → List X → Vec ℕ Z → Vec ℕ Z → Type 0
DoesLine line s t work es fs said said_now =
    Does (line_told s line) (IsTakenAt s line) (line_asks s line) (behind s line) s t work es fs said said_now

abbrev pub IsWantingAt : {X : Type 0} → Line → State → State → (X → Work) → List X → List X → Type 0
IsWantingAt line s t work es fs = IsWanting (IsTakenAt s line) (line_asks s line) s t work es fs

-- a line's keys have places, and it is not the 65th of its kind
abbrev pub IsPlaced : Line → State → Type 0
IsPlaced lines.Plan s = (s.plans < most_plans s.command) × HasPlaceFor (most_keys s.command) s.memory
IsPlaced (lines.Check c) s = s.checks < 64
IsPlaced lines.EndCheck s = HasPlaceFor 120000 s.memory
IsPlaced _ s = Unit {0}
