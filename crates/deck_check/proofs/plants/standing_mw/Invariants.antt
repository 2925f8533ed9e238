use Rattle.std.proofs.Common.{◌≡◌, ◌*◌, ◌≤◌, map}
use Rattle.std.specs.Prelude.{sum}
use Rattle.deck_lines.specs.Deck.{body_of}
use Rattle.deck_check.specs.Readings.{first, full, units_in}
use Rattle.deck_check.proofs.plants.standing_mw.Given as goal

abbrev pub invariant-loop-p : goal.invariant-loop-p
invariant-loop-p l = (l.mw ≡ sum (map (λ p. units_in (body_of l.deck) p l.t * full (body_of l.deck) p) (first l.p))) × (l.mw ≤ 79360000 * l.p)
