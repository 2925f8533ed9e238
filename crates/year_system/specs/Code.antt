-- The index of a configuration among those of its system, in a mixed radix whose digits are the counts,
-- and the code of a key: a system's number in the book with a configuration. This program's own.
use Rattle.std.specs.Prelude.{◌≡◌, ℕ, ◌+◌, ◌*◌, ◌^◌, List, fold, slice_get, Some}
use Rattle.std.specs.List.{zip}
use Rattle.year_system.specs.System.{System, Fits, greatest}

-- (((x1 * (g2 + 1)) + x2) * (g3 + 1) + x3) and so on, g being the greatest counts
abbrev pub index_of : List ℕ → List ℕ → ℕ
index_of greatest counts = fold (λ index c. index * (c.0 + 1) + c.1) 0 (zip greatest counts)

-- the code of a system, by its number in the book, and a configuration of it
abbrev pub code_of : ℕ → System → List ℕ → ℕ
code_of id s counts = id * 2 ^ 50 + index_of (greatest s) counts + 1

-- a number is the code of one of the book's systems with a configuration that fits it
pub record IsCode (book : List System) (code : ℕ) : Type 0 where
  pub id : ℕ
  pub system : System
  pub counts : List ℕ
  pub at : slice_get book id ≡ Some system
  pub fits : Fits system counts
  pub is : code ≡ code_of id system counts
