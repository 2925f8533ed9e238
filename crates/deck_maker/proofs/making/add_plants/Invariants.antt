use Rattle.std.proofs.Common.{◌≡◌, ◌+◌, ◌*◌, ◌≤◌, ◌++◌}
use Rattle.std.specs.Prelude.{map}
use Rattle.deck_check.specs.Readings.{first}
use Rattle.deck_maker.specs.Order.{reach}
use Rattle.deck_maker.specs.TrialDeck.{plant}
use Rattle.deck_maker.proofs.making.add_plants.Given as goal

abbrev pub invariant-loop-i : goal.invariant-loop-i
invariant-loop-i l = record {
  added : l.deck ≡ l.initial.deck ++ map (plant l.initial.stream.seed) (first l.i);
  reach : reach l.deck ≤ 201 + l.i;
  seed : l.stream.seed ≡ l.initial.stream.seed;
  drawn : l.stream.drawn ≡ 2 + 5 * l.i;
}
