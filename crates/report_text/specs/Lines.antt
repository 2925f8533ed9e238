-- A line of text, by its words. This program's own.
use Rattle.std.specs.Prelude.{ℕ, List, [], ◌∷◌, ◌++◌, map, codes, decimal}
use Rattle.std.specs.List.{flat_map, range_with_len}

-- each word behind one space
abbrev pub spaced : List (List ℕ) → List ℕ
spaced words = flat_map (λ word. codes " " ++ word) words

-- a line: its first word and the others, parted by one space, and a line feed
abbrev pub line : List ℕ → List (List ℕ) → List ℕ
line first others = first ++ spaced others ++ codes "\n"

-- numbers as words: decimal, without leading zeros
abbrev pub number_words : List ℕ → List (List ℕ)
number_words numbers = map decimal numbers

-- the texts of places 0 to n - 1, one behind the other
abbrev pub texts : ℕ → (ℕ → List ℕ) → List ℕ
texts n text_of = flat_map text_of (range_with_len 0 n)

-- the n-th PLAN of a script
abbrev pub heading : ℕ → List ℕ
heading n = line (codes "PLAN") (decimal n ∷ [])

-- how many distinct pairs of a year system and a configuration were demanded
abbrev pub keys_line : ℕ → List ℕ
keys_line k = line (codes "KEYS") (decimal k ∷ [])
