-- Refusals of a PLAN, and the line that ends a script. The names are this program's own.
use Rattle.std.specs.Prelude.{ℕ, List, [], ◌∷◌, codes, decimal, slice_index_or}
use Rattle.deck_check.specs.declared.fault.DeckFault.{DeckFault}
use Rattle.deck_lines.specs.declared.fault.LineFault.{LineFault}
use Rattle.deck_lines.specs.declared.fault.LineKind.{LineKind}
use Rattle.deck_lines.specs.declared.fault.LineKind.TheVariants as kinds
use Rattle.report_text.specs.declared.refusals.Refusal.{Refusal}
use Rattle.report_text.specs.declared.refusals.Refusal.TheVariants.{Deck, Wide, Many}
use Rattle.report_text.specs.Lines.{line}

-- the names of the refusals 1 to 29, behind an empty one
abbrev pub names : List (List ℕ)
names =
    []
    ∷ codes "NOYEARS" ∷ codes "NOPERIODS" ∷ codes "NORATE" ∷ codes "NOENS" ∷ codes "NOCANDIDATE"
    ∷ codes "NOLOAD" ∷ codes "LOADCOUNT" ∷ codes "NOSHAPE" ∷ codes "SHAPEFORM" ∷ codes "NOFUEL"
    ∷ codes "BLOCKS" ∷ codes "NOPLANT" ∷ codes "NEGATIVE" ∷ codes "WEIGHTS" ∷ codes "NOGROUP"
    ∷ codes "NOPROJECT" ∷ codes "NOWATER" ∷ codes "WATERCOUNT" ∷ codes "UNITS" ∷ codes "POWER"
    ∷ codes "CODES" ∷ codes "NOCASE" ∷ codes "TUNNELCOUNT" ∷ codes "TUNNELHIGH" ∷ codes "TOOWIDE"
    ∷ codes "TOOMANY" ∷ codes "OLDFORM" ∷ codes "STEPUNIT" ∷ codes "STEPWATER" ∷ []

-- the name of a refusal by its number; a number without a refusal has none
abbrev pub name_of : ℕ → List ℕ
name_of number = slice_index_or names number []

-- a refusal as a number with its three numbers
abbrev pub fault_of : Refusal → DeckFault
fault_of (Deck fault) = fault
fault_of (Wide c t n) = record { number = 25; a = c; b = t; c = n }
fault_of (Many c t n) = record { number = 26; a = c; b = t; c = n }

abbrev pub fault_words : DeckFault → List (List ℕ)
fault_words f = decimal f.number ∷ name_of f.number ∷ decimal f.a ∷ decimal f.b ∷ decimal f.c ∷ []

abbrev pub refusal_line : Refusal → List ℕ
refusal_line r = line (codes "REFUSED") (fault_words (fault_of r))

-- ---- a line outside the grammar

abbrev pub kind_word : LineKind → List ℕ
kind_word kinds.NoEnd = codes "NOEND"
kind_word kinds.ManyLines = codes "MANYLINES"
kind_word kinds.Long = codes "LONG"
kind_word kinds.Byte = codes "BYTE"
kind_word kinds.Word = codes "WORD"
kind_word kinds.Count = codes "COUNT"
kind_word kinds.Number = codes "NUMBER"
kind_word kinds.Range = codes "RANGE"
kind_word kinds.Many = codes "MANY"

-- line n, by its number from 1, with its fault
abbrev pub malformed_line : ℕ → LineFault → List ℕ
malformed_line n fault = line (codes "MALFORMED") (decimal n ∷ kind_word fault.kind ∷ decimal fault.column ∷ [])
