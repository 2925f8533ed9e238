use Rattle.std.proofs.Common.{◌≡◌, ◌*◌}
use Rattle.wasp_fixed.specs.declared.numbers.TheConstants.{ONE}
use Rattle.cost_terms.specs.Cost.{escalated, fuel_factor}
use Rattle.cost_terms.proofs.Columns.{IsFilled}
use Rattle.cost_terms.proofs.factors.fuel_column.Given as goal

abbrev pub invariant-loop-k : goal.invariant-loop-k
invariant-loop-k l =
    record {
      price : l.price ≡ escalated l.escalation l.k;
      filled : IsFilled (fuel_factor l.rate l.escalation) (18 * ONE) l.column l.k;
    }
