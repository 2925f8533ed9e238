use Rattle.std.proofs.Common.{◌≡◌, ◌≤◌}
use Rattle.wasp_fixed.specs.declared.numbers.TheConstants.{ONE}
use Rattle.wasp_fixed.specs.Discounts.{end_factor}
use Rattle.wasp_fixed.proofs.discounts.discount.Given as goal

abbrev pub invariant-loop : goal.invariant-loop
invariant-loop l = record {
  value : l.factor ≡ end_factor l.rate l.counter;
  most : l.factor ≤ ONE;
}
