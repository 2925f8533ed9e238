use Rattle.std.proofs.Common.{◌≡◌, ◌+◌, ◌*◌, ◌≤◌, ◌++◌}
use Rattle.std.specs.Prelude.{map}
use Rattle.deck_check.specs.Readings.{first}
use Rattle.deck_maker.specs.Order.{reach}
use Rattle.deck_maker.specs.TrialDeck.{load}
use Rattle.deck_maker.proofs.making.add_loads.Given as goal

abbrev pub invariant-loop-i : goal.invariant-loop-i
invariant-loop-i l = record {
  added : l.deck ≡ l.initial.deck ++ map (load l.initial.stream.seed l.candidates) (first l.i);
  reach : reach l.deck ≤ 501 + l.i;
  seed : l.stream.seed ≡ l.initial.stream.seed;
  drawn : l.stream.drawn ≡ 36 + 6 * l.candidates + 2 * l.i;
}
