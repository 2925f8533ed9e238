use Rattle.std.proofs.Common.{◌≡◌, ◌-◌, ◌*◌, ◌≤◌}
use Rattle.wasp_fixed.specs.declared.numbers.TheConstants.{ONE}
use Rattle.wasp_fixed.specs.Curves.{area, cell}
use Rattle.convolution.proofs.slices.sum_cells.Given as goal

abbrev pub invariant-loop-x : goal.invariant-loop-x
invariant-loop-x l =
    record {
      sum_is : l.total ≡ area (cell l.cells) l.from l.x;
      small : l.total ≤ (l.x - l.from) * ONE;
    }
