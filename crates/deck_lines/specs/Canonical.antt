-- The text of a statement as a planner would write it: its words one space apart, and numbers without
-- leading zeros. This program's own.
use Rattle.std.specs.Prelude.{◌≡◌, ℕ, List, [], ◌∷◌, ◌++◌, Ok, IsTrue, map, decimal}
use Rattle.deck_lines.specs.declared.line.Line.TheVariants as lines
use Rattle.deck_lines.specs.declared.line.Mode.{Mode}
use Rattle.deck_lines.specs.declared.statement.Statement.{Statement}
use Rattle.deck_lines.specs.Statements.{word_of, index_of, spelling_of, IsStatement}
use Rattle.deck_lines.specs.Grammar.{has_statements, line_of}

-- words, each behind a space
abbrev pub spaced : List (List ℕ) → List ℕ
spaced [] = []
spaced (w ∷ ws) = 32 ∷ w ++ spaced ws

-- the name of a statement is a word, where it has one
abbrev pub name_words : List ℕ → List (List ℕ)
name_words [] = []
name_words (b ∷ bs) = (b ∷ bs) ∷ []

abbrev pub words_behind : Statement → List (List ℕ)
words_behind s = map decimal (index_of s.head) ++ (name_words s.body.name ++ map decimal s.body.numbers)

abbrev pub text_of : Statement → List ℕ
text_of s = spelling_of (word_of s.head) ++ spaced (words_behind s)

-- every statement's text is read back as that statement, wherever statements stand
abbrev pub StatementsReadBack : Type 0
StatementsReadBack = (mode : Mode) (s : Statement) → IsTrue (has_statements mode) → IsStatement s → line_of mode (text_of s) ≡ Ok (lines.Set s)
