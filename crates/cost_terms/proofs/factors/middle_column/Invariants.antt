use Rattle.wasp_fixed.specs.Discounts.{mid_factor}
use Rattle.wasp_fixed.specs.declared.numbers.TheConstants.{ONE}
use Rattle.cost_terms.proofs.Columns.{IsFilled}
use Rattle.cost_terms.proofs.factors.middle_column.Given as goal

abbrev pub invariant-loop-k : goal.invariant-loop-k
invariant-loop-k l = IsFilled (mid_factor l.rate) ONE l.column l.k
