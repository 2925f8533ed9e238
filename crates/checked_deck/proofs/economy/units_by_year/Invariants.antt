use Rattle.std.proofs.Common.{◌≡◌, map}
use Rattle.deck_lines.specs.Deck.{body_of}
use Rattle.deck_check.specs.Readings.{first, units_in}
use Rattle.checked_deck.proofs.economy.units_by_year.Given as goal

abbrev pub invariant-loop-t : goal.invariant-loop-t
invariant-loop-t l = l.units.items ≡ map (units_in (body_of l.deck) l.p) (first l.t)
