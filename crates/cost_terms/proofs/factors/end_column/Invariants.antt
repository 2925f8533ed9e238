use Rattle.wasp_fixed.specs.Discounts.{end_factor}
use Rattle.wasp_fixed.specs.declared.numbers.TheConstants.{ONE}
use Rattle.cost_terms.proofs.Columns.{IsFilled}
use Rattle.cost_terms.proofs.factors.end_column.Given as goal

abbrev pub invariant-loop-k : goal.invariant-loop-k
invariant-loop-k l = IsFilled (end_factor l.rate) ONE l.column l.k
