use Rattle.std.proofs.Common.{◌≡◌, ◌*◌, ◌≤◌, map}
use Rattle.std.specs.Prelude.{sum}
use Rattle.deck_lines.specs.Deck.{body_of}
use Rattle.deck_check.specs.Readings.{first, units_in}
use Rattle.deck_check.proofs.plants.standing_units.Given as goal

abbrev pub invariant-loop-p : goal.invariant-loop-p
invariant-loop-p l = (l.units ≡ sum (map (λ p. units_in (body_of l.deck) p l.t) (first l.p))) × (l.units ≤ 3968 * l.p)
