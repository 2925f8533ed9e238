use Rattle.std.proofs.Common.{◌≡◌, ℕ, ◌*◌, ◌/◌, ◌<◌, ◌≤◌, ◌^◌, List, length, get_or, ap, ◌∙◌, arith, sum_by}
use Rattle.std.specs.List.{zip}
use Rattle.std.proofs.Math.Nat.{mul-le-mul}
use Rattle.std.proofs.lemmas.List.{take_all}
use Rattle.std.proofs.lemmas.Slice.Zip.{length-zip}
use Rattle.wasp_fixed.proofs.Lists.{zip_more}
use Rattle.cost_terms.specs.Cost.{shortage_cost}
use Rattle.cost_terms.proofs.running.weighted_cents.Goals as goal

pub loop-k-preserved : goal.loop-k-preserved
loop-k-preserved c =
    let costs = c.args.costs.now in
    let shorts = c.args.shorts.now in
    let k = c.loop-k.k in
    let f : ℕ × ℕ → ℕ = λ e. e.0 * shortage_cost costs.shortage c.args.demand e.1 in
    let l : k < length costs.weights = omega (arith, c.loop-k-test.true, ap length c.as_slice-weights.ensures) in
    let weight : get_or c.as_slice-weights.result.now k 0 ≡ get_or costs.weights k 0 = ap (λ (ws : List ℕ). get_or ws k 0) c.as_slice-weights.ensures in
    let e : get_or c.as_slice-weights.result.now k 0 * c.shortage_cost.result ≡ f (get_or costs.weights k 0, get_or shorts k 0) = λ i. weight i * c.shortage_cost.ensures.value i in
    let small : get_or c.as_slice-weights.result.now k 0 ≤ 10000 = rw weight (c.requires.costs.weights k 0 l) in
    let short : get_or shorts k 0 < 2 ^ 32 = c.requires.shorts k 0 (omega (arith, l, c.requires.long)) in
    let cents : c.shortage_cost.result ≤ 30000000 * 2 ^ 32 = omega (arith, c.shortage_cost.ensures.small, short) in
    let most : get_or c.as_slice-weights.result.now k 0 * c.shortage_cost.result ≤ 10000 * (30000000 * 2 ^ 32) = mul-le-mul small cents in
    record {
      value = omega (arith, c.loop-k.invariant.value, e, zip_more f costs.weights shorts k 0 c.requires.long l);
      small = omega (arith, c.loop-k.invariant.small, most);
    }

pub returns-clause-value : goal.returns-clause-value
returns-clause-value c =
    let costs = c.args.costs.now in
    let shorts = c.args.shorts.now in
    let z = zip costs.weights shorts in
    let all = c.loop-k.invariant.value ∙ ap (sum_by (λ (e : ℕ × ℕ). e.0 * shortage_cost costs.shortage c.args.demand e.1)) (take_all c.loop-k.k z (omega (arith, length-zip costs.weights shorts, c.loop-k-test.false, ap length c.as_slice-weights.ensures))) in
    ap (λ n. n / 10000) all
