-- Load duration curves and equivalent loads as functions of the place on the grid. The cells are this program's own.
use Rattle.std.specs.Prelude.{ℕ, ◌-◌, ◌≤◌, nat_lt, List, map, slice_index, sum, if◌then◌else◌}
use Rattle.std.specs.List.{range_with_len}
use Rattle.wasp_fixed.specs.declared.numbers.TheConstants.{ONE}

-- the value of a curve at x: its cell, and 0 past the last
abbrev pub cell : List ℕ → ℕ → ℕ
cell cells x = slice_index cells x

-- the value at x - back, where each value below 0 is `below`
abbrev pub before : ℕ → (ℕ → ℕ) → ℕ → ℕ → ℕ
before below curve back x = if nat_lt x back then below else curve (x - back)

-- no value is above one
abbrev pub IsAtMostOne : (ℕ → ℕ) → Type 0
IsAtMostOne curve = (x : ℕ) → curve x ≤ ONE

-- no value is above one before it
abbrev pub NeverRises : (ℕ → ℕ) → Type 0
NeverRises curve = (x y : ℕ) → x ≤ y → curve y ≤ curve x

-- the sum of the values from `from` up to, and without, `to`
abbrev pub area : (ℕ → ℕ) → ℕ → ℕ → ℕ
area curve from to = sum (map curve (range_with_len from (to - from)))
