use Rattle.std.proofs.Common.{◌≡◌, ◌-◌, ◌≤◌, length}
use Rattle.wasp_fixed.specs.Curves.{cell}
use Rattle.sim_fast.specs.Turns.{StandsAt}
use Rattle.sim_fast.proofs.lists.run_list.Given as goal

abbrev pub invariant-loop-done : goal.invariant-loop-done
invariant-loop-done l =
    record {
      within : l.done ≤ length l.turns;
      stands : StandsAt (cell l.fn.shelf.load) l.turns l.done l.bench;
      shelf : l.shelf ≡ l.fn.shelf;
      room : l.bench.room ≡ l.fn.bench.room;
      places : l.bench.places ≡ l.fn.bench.places;
    }

abbrev pub decreases-loop-done : goal.decreases-loop-done
decreases-loop-done l = length l.turns - l.done
