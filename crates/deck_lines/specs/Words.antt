-- The words of a line, and the numbers that words spell. This program's own.
use Rattle.std.specs.Prelude.{◌≡◌, ◌==◌, ◌||◌, ◌&&◌, ℕ, ◌+◌, ◌-◌, ◌*◌, Bool, false, List, [], ◌∷◌, length, Option, None, Some, nat_le, if◌then◌else◌}
use Rattle.deck_lines.specs.declared.scan.Word.{Word}

-- a word, and the place of its first byte
pub record Piece : Type 0 where
  pub column : ℕ
  pub text : List ℕ

abbrev pub piece_of : Word → Piece
piece_of w = record { column = w.column; text = w.text.now }

-- space and tab part words
abbrev pub is_space : ℕ → Bool
is_space b = (b == 32) || (b == 9)

-- a byte of a word at this place begins the word that stands behind it, or is a word of its own
abbrev pub joined : ℕ → ℕ → List Piece → List Piece
joined column b [] = record { column = column; text = b ∷ [] } ∷ []
joined column b (w ∷ ws) = if w.column == column + 1 then record { column = column; text = b ∷ w.text } ∷ ws else record { column = column; text = b ∷ [] } ∷ w ∷ ws

-- the words of a text whose first byte is at this place
abbrev pub words_from : ℕ → List ℕ → List Piece
words_from column [] = []
words_from column (b ∷ bs) = if is_space b then words_from (column + 1) bs else joined column b (words_from (column + 1) bs)

-- the words of a line
abbrev pub words_of : List ℕ → List Piece
words_of line = words_from 1 line

abbrev pub is_digit : ℕ → Bool
is_digit b = nat_le 48 b && nat_le b 57

-- the number that digits go on to, after those of n
abbrev pub number_after : ℕ → List ℕ → Option ℕ
number_after n [] = Some n
number_after n (b ∷ bs) = if is_digit b then number_after (10 * n + (b - 48)) bs else None

-- 1 to 18 decimal digits
abbrev pub number_of : List ℕ → Option ℕ
number_of text = if nat_le 1 (length text) && nat_le (length text) 18 then number_after 0 text else None

-- no space stands in it
abbrev pub IsWord : List ℕ → Type 0
IsWord [] = Unit {0}
IsWord (b ∷ bs) = (is_space b ≡ false) × IsWord bs
