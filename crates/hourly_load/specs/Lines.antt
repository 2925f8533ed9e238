-- The lines of hourly loads: blank, one load in MW, or END; and the first fault of a line that is none.
-- The words, numbers and faults are those of the lines of decks. This program's own.
use Rattle.std.specs.Prelude.{◌==◌, ◌≤◌, ℕ, List, [], ◌∷◌, length, Option, Some, None, Result, Ok, Err, nat_lt, codes, slice_index, if◌then◌else◌}
use Rattle.std.specs.Str.{bytes_eq}
use Rattle.deck_lines.specs.declared.fault.LineFault.{LineFault}
use Rattle.deck_lines.specs.declared.fault.LineKind.TheVariants as faults
use Rattle.deck_lines.specs.Words.{Piece, words_of}
use Rattle.deck_lines.specs.LineFault.{◌>>=◌, fault}
use Rattle.deck_lines.specs.Statements.{from_to, number_at}
use Rattle.deck_lines.specs.Grammar.{bad_byte, less_return}
use Rattle.hourly_load.specs.declared.line.LoadLine.{LoadLine}
use Rattle.hourly_load.specs.declared.line.LoadLine.TheVariants as lines

-- the first word: END, or else a load from 0 to 65,535 MW
abbrev pub first_word : Piece → Result LoadLine LineFault
first_word w = if bytes_eq w.text (codes "END") then Ok lines.End else (number_at (from_to 0 65535) w >>= λ n. Ok (lines.Load n))

-- no word is behind it
abbrev pub alone : LoadLine → List Piece → Result LoadLine LineFault
alone line [] = Ok line
alone line (w ∷ ws) = Err (fault faults.Count w.column)

abbrev pub past_bytes : Option ℕ → Piece → List Piece → Result LoadLine LineFault
past_bytes (Some column) w ws = Err (fault faults.Byte column)
past_bytes None w ws = first_word w >>= λ line. alone line ws

-- a line without words, and one whose first word begins with `#`, is blank
abbrev pub text_line : List ℕ → List Piece → Result LoadLine LineFault
text_line text [] = Ok lines.Blank
text_line text (w ∷ ws) = if slice_index w.text 0 == 35 then Ok lines.Blank else past_bytes (bad_byte 1 text) w ws

-- the line that the bytes before a line feed are, or its first fault
unfoldable pub load_line_of : List ℕ → Result LoadLine LineFault
load_line_of bytes = if nat_lt 4096 (length bytes) then Err (fault faults.Long 4097) else text_line (less_return bytes) (words_of (less_return bytes))

-- a load is in its range
abbrev pub IsInRange : LoadLine → Type 0
IsInRange (lines.Load n) = n ≤ 65535
IsInRange lines.Blank = Unit {0}
IsInRange lines.End = Unit {0}
