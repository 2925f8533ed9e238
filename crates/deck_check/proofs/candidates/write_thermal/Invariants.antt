use Rattle.std.proofs.Common.{◌≡◌, ◌≤◌, map, take}
use Rattle.std.specs.Prelude.{filter}
use Rattle.deck_lines.specs.Deck.{body_of}
use Rattle.deck_lines.specs.declared.head.Head.TheVariants as heads
use Rattle.deck_check.specs.Readings.{first, is_there, number}
use Rattle.deck_check.proofs.candidates.write_thermal.Given as goal

abbrev pub invariant-loop-k : goal.invariant-loop-k
invariant-loop-k l = (take l.at l.room ≡ map (λ k. number (body_of l.deck) (heads.Thermal k) 0) (filter (λ k. is_there (body_of l.deck) (heads.Thermal k)) (first l.k))) × (l.at ≤ l.k)
