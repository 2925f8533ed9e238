use Rattle.std.proofs.Common.{arith, ◌≤◌}
use Rattle.wasp_fixed.specs.declared.numbers.TheConstants.{ONE}
use Rattle.wasp_fixed.specs.Curves.{cell}
use Rattle.wasp_fixed.proofs.Areas.{area-more}
use Rattle.convolution.proofs.slices.sum_cells.Goals as goal

pub loop-x-preserved : goal.loop-x-preserved
loop-x-preserved c =
    let next = area-more (cell c.args.cells.now) c.args.from c.loop-x.x (omega arith) in
    let top : cell c.args.cells.now c.loop-x.x ≤ ONE = c.requires.cells c.loop-x.x in
    record {
      sum_is = omega (arith, next);
      small = omega (arith, top);
    }
