use Rattle.std.proofs.Common.{◌≤◌, length, arith}
use Rattle.wasp_fixed.specs.declared.numbers.TheConstants.{M}
use Rattle.wasp_fixed.specs.Curves.{cell}
use Rattle.sim_fast.specs.Behind.{shifted_step}
use Rattle.sim_fast.proofs.Cuts.{cell-past, cut, falls-same, falls-step, most-same, most-step, step-past}
use Rattle.sim_fast.proofs.shift.step_ends.Goals as goal

pub returns-clause-value : goal.returns-clause-value
returns-clause-value c =
    let f = cell c.args.cells.now in
    let n = length c.args.cells.now in
    cut c.step_cells.new.out (shifted_step f c.args.capacity c.args.share.rate) c.end_of-used.result n c.end_of-used.ensures.within c.step_cells.ensures.value c.end_of-used.ensures.zeros (step-past f c.args.capacity c.args.share.rate n (cell-past c.args.cells.now))

pub returns-clause-falls : goal.returns-clause-falls
returns-clause-falls c =
    let f = cell c.args.cells.now in
    falls-same _ (shifted_step f c.args.capacity c.args.share.rate) (returns-clause-value c) (falls-step f c.args.capacity c.args.share.rate c.requires.falls)

pub returns-clause-most : goal.returns-clause-most
returns-clause-most c =
    let f = cell c.args.cells.now in
    let r : c.args.share.rate ≤ M = omega (arith, c.args.share.below) in
    most-same _ (shifted_step f c.args.capacity c.args.share.rate) (returns-clause-value c) (most-step f c.args.capacity c.args.share.rate r c.requires.most)
