use Rattle.std.proofs.Common.{rules}
use Rattle.wasp_fixed.specs.Discounts.{end_factor}
use Rattle.wasp_fixed.specs.declared.numbers.TheConstants.{ONE}
use Rattle.cost_terms.proofs.Columns.{column_more, column_none, column_whole}
use Rattle.cost_terms.proofs.factors.end_column.Goals as goal

pub loop-k-init : goal.loop-k-init
loop-k-init c = column_none (end_factor c.args.rate) ONE _ (search rules)

pub loop-k-preserved : goal.loop-k-preserved
loop-k-preserved c = column_more (end_factor c.args.rate) ONE c.loop-k.column c.loop-k.k c.discount.result c.loop-k.invariant c.loop-k-test.true c.discount.ensures.value c.discount.ensures.most

pub returns : goal.returns
returns c = column_whole (end_factor c.args.rate) ONE c.loop-k.column c.loop-k.k c.loop-k.invariant c.loop-k-test.false
