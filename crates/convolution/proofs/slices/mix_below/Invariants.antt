use Rattle.std.proofs.Common.{◌≡◌, ℕ, ◌/◌, ◌<◌, ◌≤◌}
use Rattle.wasp_fixed.specs.declared.numbers.TheConstants.{M, ONE}
use Rattle.wasp_fixed.specs.Curves.{cell, IsAtMostOne}
use Rattle.convolution.specs.EquivalentLoad.{two_states}
use Rattle.convolution.proofs.slices.mix_below.Given as goal

abbrev pub invariant-loop-x : goal.invariant-loop-x
invariant-loop-x l =
    record {
      value : (k : ℕ) → k < l.x → cell l.cells k ≡ two_states l.weights.outage (cell l.fn.cells k) ONE / M;
      kept : (k : ℕ) → l.x ≤ k → cell l.cells k ≡ cell l.fn.cells k;
      cells : IsAtMostOne (cell l.cells);
    }
