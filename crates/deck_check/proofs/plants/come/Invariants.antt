use Rattle.std.proofs.Common.{◌≡◌, ◌+◌, ◌*◌, ◌≤◌, map}
use Rattle.std.specs.Prelude.{sum}
use Rattle.deck_lines.specs.Deck.{body_of}
use Rattle.deck_lines.specs.declared.head.Head.TheVariants as heads
use Rattle.deck_check.specs.Readings.{first, number}
use Rattle.deck_check.proofs.plants.come.Given as goal

abbrev pub invariant-loop-u : goal.invariant-loop-u
invariant-loop-u l = (l.units ≡ number (body_of l.deck) (heads.Plant l.p) 0 + sum (map (λ u. number (body_of l.deck) (heads.Add l.p u) 0) (first l.u))) × (l.units ≤ 128 * (l.u + 1))
