-- The lines of a text. This program's own: a line ends at a line feed or, if it is not empty, at the end of the text.
use Rattle.std.specs.Prelude.{◌≢◌, ◌==◌, ℕ, List, [], ◌∷◌, ◌++◌, if◌then◌else◌}
use Rattle.std.specs.List.{flat_map}

-- a byte before the first line
abbrev pub onto : ℕ → List (List ℕ) → List (List ℕ)
onto b [] = (b ∷ []) ∷ []
onto b (line ∷ lines) = (b ∷ line) ∷ lines

-- each line goes up to a line feed; the last one, if it isn't empty, to the end of the text
abbrev pub lines_of : List ℕ → List (List ℕ)
lines_of [] = []
lines_of (b ∷ bs) = if b == 10 then [] ∷ lines_of bs else onto b (lines_of bs)

-- no line feed stands in it
abbrev pub IsUnbroken : List ℕ → Type 0
IsUnbroken [] = Unit {0}
IsUnbroken (b ∷ bs) = (b ≢ 10) × IsUnbroken bs

-- lines as they stand in a text, each with its line feed
abbrev pub unlines : List (List ℕ) → List ℕ
unlines lines = flat_map (λ line. line ++ 10 ∷ []) lines
