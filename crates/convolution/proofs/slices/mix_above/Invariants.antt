use Rattle.std.proofs.Common.{◌≡◌, ℕ, ◌-◌, ◌/◌, ◌<◌, ◌≤◌}
use Rattle.wasp_fixed.specs.declared.numbers.TheConstants.{M}
use Rattle.wasp_fixed.specs.Curves.{cell, IsAtMostOne}
use Rattle.convolution.specs.EquivalentLoad.{two_states}
use Rattle.convolution.proofs.slices.mix_above.Given as goal

abbrev pub invariant-loop-x : goal.invariant-loop-x
invariant-loop-x l =
    record {
      least : l.capacity ≤ l.x;
      range : l.x ≤ l.end;
      value : (k : ℕ) → l.x ≤ k → k < l.end → cell l.cells k ≡ two_states l.weights.outage (cell l.fn.cells k) (cell l.fn.cells (k - l.capacity)) / M;
      kept : (k : ℕ) → k < l.x → cell l.cells k ≡ cell l.fn.cells k;
      cells : IsAtMostOne (cell l.cells);
    }

abbrev pub decreases-loop-x : goal.decreases-loop-x
decreases-loop-x l = l.x
