use Rattle.std.proofs.Common.{◌≡◌, ◌*◌, ◌≤◌, map}
use Rattle.std.specs.Prelude.{sum}
use Rattle.deck_lines.specs.Deck.{body_of}
use Rattle.deck_lines.specs.declared.head.Head.TheVariants as heads
use Rattle.deck_check.specs.Readings.{first, number}
use Rattle.deck_check.proofs.plants.new_units.Given as goal

abbrev pub invariant-loop-k : goal.invariant-loop-k
invariant-loop-k l = (l.units ≡ sum (map (λ k. number (body_of l.deck) (heads.Thermal k) 0) (first l.k))) × (l.units ≤ 128 * l.k)
