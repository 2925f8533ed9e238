-- What a reader of lines does to the bytes ahead of it, where they are told. This program's own.
use Rattle.std.specs.Prelude.{◌≡◌, ℕ, ◌<◌, ◌≤◌, Bool, true, false, List, [], ◌∷◌, ◌++◌, length, Option, None, Some, IfSome}
use Rattle.std.specs.Io.KnownBytes.{prepend_known, Keeps, Consumes, IsAtEnd}
use Rattle.line_reader.specs.declared.bytes.Next.{Next}
use Rattle.line_reader.specs.declared.bytes.Next.TheVariants as next
use Rattle.line_reader.specs.declared.lines.Found.{Found}
use Rattle.line_reader.specs.declared.lines.Found.TheVariants as found
use Rattle.line_reader.specs.Lines.{lines_of, IsUnbroken}

-- the bytes that were taken already, and then those that the source has left
abbrev pub ahead : List ℕ → Option (List ℕ) → Option (List ℕ)
ahead buffered left = prepend_known buffered left

abbrev pub ByteFrom : Option (List ℕ) → Option (List ℕ) → Next → Type 0
ByteFrom before now (next.Byte b) = Consumes before now (b ∷ [])
ByteFrom before now next.End = IsAtEnd before × Keeps before now
ByteFrom before now next.Failed = Keeps before now

-- no byte came, and none is to be asked for
abbrev pub is_over : Next → Bool
is_over (next.Byte b) = false
is_over next.End = true
is_over next.Failed = true

-- no line is to follow it
abbrev pub is_final : Found → Bool
is_final found.Line = false
is_final found.Last = true
is_final found.Long = false
is_final found.End = true
is_final found.Failed = true

-- these are all the bytes that were told, and none is left
abbrev pub IsLast : Option (List ℕ) → Option (List ℕ) → List ℕ → Type 0
IsLast None now line = Unit {0}
IsLast (Some text) None line = ⊥
IsLast (Some text) (Some rest) line = (text ≡ line) × (rest ≡ [])

-- the bytes of one line, in the text
abbrev pub LineTextFrom : Option (List ℕ) → Option (List ℕ) → List ℕ → Found → Type 0
LineTextFrom before now line found.Line = Consumes before now (line ++ 10 ∷ []) × (length line ≤ 4096)
LineTextFrom before now line found.Last = IsLast before now line × (0 < length line) × (length line ≤ 4096)
LineTextFrom before now line found.Long = Consumes before now line × (length line ≡ 4097)
LineTextFrom before now line found.End = IsLast before now []
LineTextFrom before now line found.Failed = Consumes before now line × (length line ≤ 4096)

-- the first line of the text begins so
abbrev pub LineBegins : List ℕ → List ℕ → Type 0
LineBegins text line = (more : List ℕ) × (others : List (List ℕ)) × (lines_of text ≡ (line ++ more) ∷ others)

-- what a call found, by the lines of the text
abbrev pub LineFrom : Option (List ℕ) → Option (List ℕ) → List ℕ → Found → Type 0
LineFrom before now line found.Line = Consumes before now (line ++ 10 ∷ []) × IsUnbroken line × (length line ≤ 4096)
LineFrom before now line found.Last = IsLast before now line × IsUnbroken line × (0 < length line) × (length line ≤ 4096) × IfSome before (λ text. lines_of text ≡ line ∷ [])
LineFrom before now line found.Long = Consumes before now line × IsUnbroken line × (length line ≡ 4097) × IfSome before (λ text. LineBegins text line)
LineFrom before now line found.End = IsLast before now [] × IfSome before (λ text. lines_of text ≡ [])
LineFrom before now line found.Failed = Consumes before now line × IsUnbroken line × (length line ≤ 4096)
