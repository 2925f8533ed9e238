-- The lines of decks, scripts and certificates, and the first fault of a line that is none. This
-- program's own.
use Rattle.std.specs.Prelude.{◌==◌, ◌&&◌, ◌||◌, ◌+◌, ◌-◌, ◌<◌, ◌≤◌, ◌^◌, ℕ, zero, suc, Bool, true, false, List, [], ◌∷◌, ◌++◌, length, take, Option, Some, None, Result, Ok, Err, IsTrue, IfSome, All, nat_le, nat_lt, codes, slice_index, find, if◌then◌else◌}
use Rattle.std.specs.Str.{bytes_eq}
use Rattle.deck_lines.specs.declared.fault.LineFault.{LineFault}
use Rattle.deck_lines.specs.declared.fault.LineKind.TheVariants as faults
use Rattle.deck_lines.specs.declared.form.Kind.{Kind}
use Rattle.deck_lines.specs.declared.head.Head.{Head}
use Rattle.deck_lines.specs.declared.head_word.HeadWord.{HeadWord}
use Rattle.deck_lines.specs.declared.line.Mode.{Mode}
use Rattle.deck_lines.specs.declared.line.Mode.TheVariants as modes
use Rattle.deck_lines.specs.declared.line.Line.{Line}
use Rattle.deck_lines.specs.declared.line.Line.TheVariants as lines
use Rattle.deck_lines.specs.declared.line.CertLine.{CertLine}
use Rattle.deck_lines.specs.declared.line.CertLine.TheVariants as certs
use Rattle.deck_lines.specs.declared.line_word.LineWord.{LineWord}
use Rattle.deck_lines.specs.declared.line_word.LineWord.TheVariants as words
use Rattle.deck_lines.specs.Words.{Piece, is_space, words_of}
use Rattle.deck_lines.specs.LineFault.{◌>>=◌, fault}
use Rattle.deck_lines.specs.Statements.{from_to, case, year, layout_of, head_word_of, head_of, word_of, index_of, number_at, fields_onto, groups_onto, headed, allows_each, IsStatement}

-- ---- the words of the lines that are no statements

abbrev pub line_spelling_of : LineWord → List ℕ
line_spelling_of words.Drop = codes "DROP"
line_spelling_of words.Plan = codes "PLAN"
line_spelling_of words.Check = codes "CHECK"
line_spelling_of words.End = codes "END"
line_spelling_of words.Come = codes "COME"
line_spelling_of words.Chosen = codes "CHOSEN"
line_spelling_of words.Total = codes "TOTAL"
line_spelling_of words.Infeasible = codes "INFEASIBLE"
line_spelling_of words.EndCheck = codes "ENDCHECK"
line_spelling_of words.Case = codes "CASE"
line_spelling_of words.Edge = codes "EDGE"
line_spelling_of words.Terms = codes "TERMS"
line_spelling_of words.Risk = codes "RISK"
line_spelling_of words.Short = codes "SHORT"
line_spelling_of words.Gen = codes "GEN"

-- those that a mode allows
abbrev pub line_words : Mode → List LineWord
line_words modes.Plan = words.Drop ∷ words.Plan ∷ words.End ∷ []
line_words modes.Check = words.Drop ∷ words.Check ∷ words.End ∷ []
line_words modes.Certificate = words.Come ∷ words.Chosen ∷ words.Total ∷ words.Infeasible ∷ words.EndCheck ∷ words.Case ∷ words.Edge ∷ words.Terms ∷ words.Risk ∷ words.Short ∷ words.Gen ∷ []

abbrev pub line_word_of : Mode → List ℕ → Option LineWord
line_word_of mode text = find (λ word. bytes_eq text (line_spelling_of word)) (line_words mode)

-- statements stand in decks and scripts
abbrev pub has_statements : Mode → Bool
has_statements modes.Plan = true
has_statements modes.Check = true
has_statements modes.Certificate = false

-- ---- what stands behind them

-- any number
abbrev pub number : Kind
number = from_to 0 999_999_999_999_999_999

abbrev pub count : Kind
count = from_to 0 128

-- no word is left
abbrev pub ended : Line → List Piece → Result Line LineFault
ended line [] = Ok line
ended line (w ∷ ws) = Err (fault faults.Count w.column)

-- a number, and the words behind it
abbrev pub number_then : Kind → ℕ → List Piece → Result (ℕ × List Piece) LineFault
number_then kind end [] = Err (fault faults.Count end)
number_then kind end (w ∷ ws) = do
  n ← number_at kind w
  Ok (n, ws)

-- a head, and nothing behind it
abbrev pub dropped : Option HeadWord → ℕ → ℕ → List Piece → Result Line LineFault
dropped None column end ws = Err (fault faults.Word column)
dropped (Some word) column end ws = do
  index ← fields_onto [] end (layout_of word).index ws
  ended (lines.Drop (head_of word index.0)) index.1

abbrev pub drop_line : ℕ → List Piece → Result Line LineFault
drop_line end [] = Err (fault faults.Count end)
drop_line end (w ∷ ws) = dropped (head_word_of w.text) w.column end ws

-- at least so many counts, at most so many, and behind them the last word of the line
unfoldable pub counts_onto : List ℕ → ℕ → ℕ → ℕ → List Piece → Result (List ℕ × Piece) LineFault
counts_onto before end least more [] = Err (fault faults.Count end)
counts_onto before end least more (w ∷ []) = if least == 0 then Ok (before, w) else Err (fault faults.Count end)
counts_onto before end least zero (w ∷ v ∷ ws) = Err (fault faults.Count w.column)
counts_onto before end least (suc more) (w ∷ v ∷ ws) = do
  n ← number_at count w
  counts_onto (before ++ n ∷ []) end (least - 1) more (v ∷ ws)

-- 1 to 14 counts, each at most 128
pub record AreCounts (counts : List ℕ) : Type 0 where
  pub some : 1 ≤ length counts
  pub few : length counts ≤ 14
  pub small : All (λ n. n ≤ 128) counts

-- the value of a COME line: a number or `NONE`
abbrev pub value_at : Piece → Result (Option ℕ) LineFault
value_at w = if bytes_eq w.text (codes "NONE") then Ok None else (number_at number w >>= λ n. Ok (Some n))

abbrev pub come_line : ℕ → List Piece → Result Line LineFault
come_line end ws = do
  t ← number_then year end ws
  counts ← counts_onto [] end 1 14 t.1
  value ← value_at counts.1
  Ok (lines.Cert (certs.Come t.0 counts.0 value))

abbrev pub chosen_line : ℕ → List Piece → Result Line LineFault
chosen_line end ws = do
  t ← number_then year end ws
  counts ← groups_onto [] end (count ∷ []) 1 14 t.1
  Ok (lines.Cert (certs.Chosen t.0 counts))

abbrev pub single_line : (ℕ → Line) → Kind → ℕ → List Piece → Result Line LineFault
single_line line kind end ws = do
  n ← number_then kind end ws
  ended (line n.0) n.1

abbrev pub behind : LineWord → ℕ → List Piece → Result Line LineFault
behind words.Drop end ws = drop_line end ws
behind words.Plan end ws = ended lines.Plan ws
behind words.Check end ws = single_line (λ c. lines.Check c) case end ws
behind words.End end ws = ended lines.End ws
behind words.Come end ws = come_line end ws
behind words.Chosen end ws = chosen_line end ws
behind words.Total end ws = single_line (λ v. lines.Cert (certs.Total v)) number end ws
behind words.Infeasible end ws = single_line (λ t. lines.Cert (certs.Infeasible t)) year end ws
behind words.EndCheck end ws = ended lines.EndCheck ws
behind words.Case end ws = Ok lines.Skip
behind words.Edge end ws = Ok lines.Skip
behind words.Terms end ws = Ok lines.Skip
behind words.Risk end ws = Ok lines.Skip
behind words.Short end ws = Ok lines.Skip
behind words.Gen end ws = Ok lines.Skip

-- ---- lines

-- a word that begins no such line begins a statement, where statements stand
abbrev pub begun : Option LineWord → Mode → ℕ → Piece → List Piece → Result Line LineFault
begun (Some word) mode end w ws = behind word end ws
begun None mode end w ws = if has_statements mode then (headed (head_word_of w.text) w.column end ws >>= λ s. Ok (lines.Set s)) else Err (fault faults.Word w.column)

-- a byte that may stand in a line
abbrev pub is_line_byte : ℕ → Bool
is_line_byte b = is_space b || (nat_le 33 b && nat_le b 126)

-- where the first byte is that may not
abbrev pub bad_byte : ℕ → List ℕ → Option ℕ
bad_byte column [] = None
bad_byte column (b ∷ bs) = if is_line_byte b then bad_byte (column + 1) bs else Some column

abbrev pub past_bytes : Option ℕ → Mode → ℕ → Piece → List Piece → Result Line LineFault
past_bytes (Some column) mode end w ws = Err (fault faults.Byte column)
past_bytes None mode end w ws = begun (line_word_of mode w.text) mode end w ws

-- a line without words, and one whose first word begins with `#`, is blank; a missing word is looked
-- for behind the end of the text
abbrev pub text_line : Mode → List ℕ → List Piece → Result Line LineFault
text_line mode text [] = Ok lines.Blank
text_line mode text (w ∷ ws) = if slice_index w.text 0 == 35 then Ok lines.Blank else past_bytes (bad_byte 1 text) mode (length text + 1) w ws

-- one carriage return at the end is taken off
abbrev pub less_return : List ℕ → List ℕ
less_return bytes = if slice_index bytes (length bytes - 1) == 13 then take (length bytes - 1) bytes else bytes

-- the line that the bytes before a line feed are in a mode, or its first fault
unfoldable pub line_of : Mode → List ℕ → Result Line LineFault
line_of mode bytes = if nat_lt 4096 (length bytes) then Err (fault faults.Long 4097) else text_line mode (less_return bytes) (words_of (less_return bytes))

-- ---- a line in its form and its ranges

abbrev pub IsCertLine : CertLine → Type 0
IsCertLine (certs.Come t counts value) = (1 ≤ t) × (t ≤ 30) × IfSome value (λ v. v < 10 ^ 18)
IsCertLine (certs.Chosen t counts) = (1 ≤ t) × (t ≤ 30)
IsCertLine (certs.Total v) = v < 10 ^ 18
IsCertLine (certs.Infeasible t) = (1 ≤ t) × (t ≤ 30)

-- a head whose index numbers are in their ranges
abbrev pub IsHead : Head → Type 0
IsHead h = IsTrue (allows_each (layout_of (word_of h)).index (index_of h))

abbrev pub IsLine : Line → Type 0
IsLine (lines.Set s) = IsStatement s
IsLine (lines.Drop h) = IsHead h
IsLine (lines.Check c) = (1 ≤ c) × (c ≤ 8)
IsLine (lines.Cert l) = IsCertLine l
IsLine lines.Blank = Unit {0}
IsLine lines.Plan = Unit {0}
IsLine lines.Skip = Unit {0}
IsLine lines.EndCheck = Unit {0}
IsLine lines.End = Unit {0}
