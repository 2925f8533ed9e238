use Rattle.std.proofs.Common.{◌≡◌, map}
use Rattle.std.specs.List.{range_with_len}
use Rattle.deck_lines.specs.Deck.{body_of}
use Rattle.deck_check.specs.Readings.{load_in}
use Rattle.checked_deck.proofs.parts.loads_of.Given as goal

abbrev pub invariant-loop-i : goal.invariant-loop-i
invariant-loop-i l = l.loads.items ≡ map (load_in (body_of l.deck) l.t) (range_with_len 0 l.i)
