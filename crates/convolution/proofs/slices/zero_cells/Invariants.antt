use Rattle.std.proofs.Common.{◌≡◌, ℕ, ◌<◌, take}
use Rattle.wasp_fixed.specs.Curves.{cell, IsAtMostOne}
use Rattle.convolution.proofs.slices.zero_cells.Given as goal

abbrev pub invariant-loop-x : goal.invariant-loop-x
invariant-loop-x l =
    record {
      value : (k : ℕ) → k < l.x → cell l.cells k ≡ cell (take l.from l.fn.cells) k;
      cells : IsAtMostOne (cell l.cells);
    }
