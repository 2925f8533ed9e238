-- The script in a text: its lines, each in the mode that the command and the lines before it set, up to the first END
-- or the first line with a fault. This program's own.
use Rattle.std.specs.Prelude.{ℕ, ◌+◌, List, [], ◌∷◌, ◌++◌, length, nat_lt, if◌then◌else◌, Option, None, Some, Result, Ok, Err}
use Rattle.line_reader.specs.Lines.{lines_of}
use Rattle.deck_lines.specs.Grammar.{line_of}
use Rattle.deck_lines.specs.LineFault.{◌>>=◌, fault}
use Rattle.deck_lines.specs.declared.fault.LineFault.{LineFault}
use Rattle.deck_lines.specs.declared.fault.LineKind.TheVariants as kinds
use Rattle.deck_lines.specs.declared.line.Line.{Line}
use Rattle.deck_lines.specs.declared.line.Line.TheVariants as lines
use Rattle.deck_tellings.specs.Checks.{Open, check_count, open_at}
use Rattle.wasp_session.specs.Modes.{mode_of}
use Rattle.wasp_session.specs.Tasks.{most_plans, plan_count}
use Rattle.wasp_session.specs.declared.command.Command.{Command}

-- the first line with a fault, by its number from 1
pub record Malformed : Type 0 where
  pub line : ℕ
  pub fault : LineFault

-- the lines before the END, or before a malformed line
pub record Script : Type 0 where
  pub lines : List Line
  pub malformed : Option Malformed

-- ---- one line

-- a PLAN line more than the command allows is a fault, and a 65th CHECK line
abbrev pub at_most : ℕ → ℕ → Line → Result Line LineFault
at_most most earlier line = if nat_lt earlier most then Ok line else Err (fault kinds.Many 1)

abbrev pub within_counts : Command → ℕ → ℕ → Line → Result Line LineFault
within_counts command plans checks lines.Plan = at_most (most_plans command) plans lines.Plan
within_counts command plans checks (lines.Check c) = at_most 64 checks (lines.Check c)
within_counts command plans checks line = Ok line

-- what the bytes of a line are to a command, with the CHECK that is open, behind so many PLAN and CHECK lines
abbrev pub stated : Command → Option Open → ℕ → ℕ → List ℕ → Result Line LineFault
stated command opened plans checks bytes =
    line_of (mode_of command opened) bytes >>= within_counts command plans checks

-- behind other lines: there are at most 100,000
abbrev pub line_behind : Command → List Line → List ℕ → Result Line LineFault
line_behind command before bytes =
    if nat_lt (length before) 100000
    then stated command (open_at before) (plan_count before) (check_count before) bytes
    else Err (fault kinds.ManyLines 1)

-- ---- all lines

-- the line behind these has a fault
abbrev pub stops : List Line → LineFault → Script
stops before f = record { lines = before; malformed = Some (record { line = length before + 1; fault = f }) }

-- END stands behind these
abbrev pub ends : List Line → Script
ends before = record { lines = before; malformed = None }

-- a line, and those behind it
abbrev pub line_then : List Line → (List Line → Script) → Result Line LineFault → Script
line_then before rest (Err f) = stops before f
line_then before rest (Ok lines.End) = ends before
line_then before rest (Ok line) = rest (before ++ line ∷ [])

unfoldable pub script_behind : Command → List Line → List (List ℕ) → Script
script_behind command before [] = stops before (fault kinds.NoEnd 1)
script_behind command before (bytes ∷ texts) = line_then before (λ read. script_behind command read texts) (line_behind command before bytes)

abbrev pub script_of : Command → List ℕ → Script
script_of command text = script_behind command [] (lines_of text)
