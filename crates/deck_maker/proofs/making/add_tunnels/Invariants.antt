use Rattle.std.proofs.Common.{◌≡◌, ◌+◌, ◌≤◌, ◌++◌}
use Rattle.std.specs.Prelude.{map}
use Rattle.deck_check.specs.Readings.{first}
use Rattle.deck_maker.specs.Order.{reach}
use Rattle.deck_maker.specs.TrialDeck.{tunnel}
use Rattle.deck_maker.proofs.making.add_tunnels.Given as goal

abbrev pub invariant-loop-i : goal.invariant-loop-i
invariant-loop-i l = record {
  added : l.deck ≡ l.initial.deck ++ map (tunnel l.candidates) (first l.i);
  reach : reach l.deck ≤ 701 + l.i;
}
