use Rattle.std.proofs.Common.{◌≡◌, ◌+◌, ◌≤◌, ◌++◌, map, take}
use Rattle.std.specs.Prelude.{filter}
use Rattle.deck_lines.specs.Deck.{body_of}
use Rattle.deck_lines.specs.declared.head.Head.TheVariants as heads
use Rattle.deck_check.specs.Readings.{first, is_there, number}
use Rattle.deck_check.proofs.candidates.write_groups.Given as goal

abbrev pub invariant-loop-g : goal.invariant-loop-g
invariant-loop-g l = (take l.at l.room ≡ take l.from l.initial.room ++ map (λ g. number (body_of l.deck) (heads.Hydro g) 1) (filter (λ g. is_there (body_of l.deck) (heads.Hydro g)) (first l.g))) × (l.at ≤ l.from + l.g)
