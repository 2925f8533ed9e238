use Rattle.std.proofs.Common.{◌≡◌, ◌≤◌, map}
use Rattle.std.specs.List.{range_with_len}
use Rattle.deck_lines.specs.Deck.{body_of}
use Rattle.year_system.specs.System.{greatest_peak}
use Rattle.deck_check.specs.Readings.{load_in}
use Rattle.deck_check.proofs.plants.peak.Given as goal

abbrev pub invariant-loop-i : goal.invariant-loop-i
invariant-loop-i l = (l.most ≡ greatest_peak (map (load_in (body_of l.deck) l.t) (range_with_len 0 l.i))) × (l.most ≤ 400000)
