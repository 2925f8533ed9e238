-- The order of the heads in a trial deck. This program's own.
use Rattle.std.specs.Prelude.{ℕ, ◌+◌, max, List, [], ◌∷◌}
use Rattle.deck_lines.specs.declared.head.Head.{Head}
use Rattle.deck_lines.specs.declared.head.Head.TheVariants as heads
use Rattle.deck_lines.specs.declared.statement.Statement.{Statement}

-- a number for each head that stands in a trial deck, rising in its order
abbrev pub rank : Head → ℕ
rank heads.Years = 0
rank heads.Periods = 1
rank heads.Rate = 2
rank heads.Ens = 3
rank heads.Conditions = 4
rank (heads.Shape s) = 5
rank (heads.Fuel f) = 100 + f
rank (heads.Plant p) = 200 + p
rank (heads.Thermal k) = 300 + k
rank (heads.Hydro g) = 400
rank (heads.Project g j) = 401
rank (heads.Water g j m) = 402 + m
rank (heads.Load t) = 500 + t
rank (heads.Margin c t) = 600
rank (heads.Lolp c t) = 601
rank (heads.Tunnel c t) = 700 + t
rank _ = 0

-- one above the rank of each statement
abbrev pub reach : List Statement → ℕ
reach [] = 0
reach (s ∷ deck) = max (rank s.head + 1) (reach deck)
