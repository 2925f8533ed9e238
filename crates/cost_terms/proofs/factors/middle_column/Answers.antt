use Rattle.std.proofs.Common.{rules}
use Rattle.wasp_fixed.specs.Discounts.{mid_factor}
use Rattle.wasp_fixed.specs.declared.numbers.TheConstants.{ONE}
use Rattle.cost_terms.proofs.Columns.{column_more, column_none, column_whole}
use Rattle.cost_terms.proofs.factors.middle_column.Goals as goal

pub loop-k-init : goal.loop-k-init
loop-k-init c = column_none (mid_factor c.args.rate) ONE _ (search rules)

pub loop-k-preserved : goal.loop-k-preserved
loop-k-preserved c = column_more (mid_factor c.args.rate) ONE c.loop-k.column c.loop-k.k c.middle.result c.loop-k.invariant c.loop-k-test.true c.middle.ensures.value c.middle.ensures.most

pub returns : goal.returns
returns c = column_whole (mid_factor c.args.rate) ONE c.loop-k.column c.loop-k.k c.loop-k.invariant c.loop-k-test.false
