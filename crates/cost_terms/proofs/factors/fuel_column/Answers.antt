use Rattle.std.proofs.Common.{◌≡◌, ◌+◌, ◌*◌, ◌/◌, ◌≤◌, add-one, ap, arith, ◌∙◌, suc, refl, rules}
use Rattle.wasp_fixed.specs.declared.numbers.TheConstants.{ONE}
use Rattle.cost_terms.specs.Cost.{escalated, fuel_factor}
use Rattle.cost_terms.proofs.Columns.{column_more, column_none, column_whole}
use Rattle.cost_terms.proofs.FactorBounds.{escalated_most, fuel_most}
use Rattle.cost_terms.proofs.factors.fuel_column.Goals as goal

pub loop-k-init : goal.loop-k-init
unfolding escalated
loop-k-init c = record { price = refl; filled = column_none (fuel_factor c.args.rate c.args.escalation) (18 * ONE) _ (search rules) }

pub loop-k-preserved : goal.loop-k-preserved
unfolding escalated
loop-k-preserved c =
    let k = c.loop-k.k in
    let f = fuel_factor c.args.rate c.args.escalation in
    let dearer : c.loop-k.price * (10000 + c.args.escalation) / 10000 ≡ escalated c.args.escalation (suc k) = ap (λ p. p * (10000 + c.args.escalation) / 10000) c.loop-k.invariant.price in
    let value : c.mul_div_floor.result ≡ f k = c.mul_div_floor.ensures ∙ λ i. c.middle.ensures.value i * c.loop-k.invariant.price i / ONE in
    let most = escalated_most c.args.escalation k c.requires.escalation (omega (arith, c.loop-k-test.true)) in
    let small : c.mul_div_floor.result ≤ 18 * ONE = omega (arith, c.mul_div_floor.ensures, fuel_most c.middle.result c.loop-k.price c.middle.ensures.most, c.loop-k.invariant.price, most) in
    record {
      price = rw add-one dearer;
      filled = column_more f (18 * ONE) c.loop-k.column k c.mul_div_floor.result c.loop-k.invariant.filled c.loop-k-test.true value small;
    }

pub returns : goal.returns
returns c = column_whole (fuel_factor c.args.rate c.args.escalation) (18 * ONE) c.loop-k.column c.loop-k.k c.loop-k.invariant.filled c.loop-k-test.false
