use Rattle.convolution.proofs.Gaps.{copy_within-closes}
use Rattle.convolution.proofs.slices.close_gap.Goals as goal

pub returns-clause-value : goal.returns-clause-value
returns-clause-value c =
    rw c.copy_within.ensures.after (copy_within-closes c.args.cells.now c.args.from c.args.gap c.args.used c.requires.order c.requires.within)
