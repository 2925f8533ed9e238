use Rattle.std.proofs.Common.{◌≡◌, ◌+◌, length, arith}
use Rattle.best_plans.specs.Offers.{reached_at}
use Rattle.best_plans.proofs.Putting.{passed, put_rank, skipped}
use Rattle.best_plans.proofs.Reaching.{read_total, read_ways, small_sum}
use Rattle.best_plans.proofs.offers.offer_ways.Goals as goal

pub returns-in_default : goal.returns-in_default
returns-in_default c = skipped c.args.k c.args.reached.now c.args.added.now c.args.place c.args.kept.now.items c.requires.kept c.in_default.is

pub overflow_add-cost : goal.overflow_add-cost
overflow_add-cost c =
    let ws : c.as_slice-ways.result.now ≡ (reached_at c.args.reached.now c.args.place).ways =
    read_ways c.args.reached.now c.args.place c.index-reached-place.result c.as_slice-ways.result.now c.requires.place c.as_slice-ways.ensures in
    record { fits = small_sum c.args.reached.now c.args.place c.loop-rank.rank c.in-Some.adds c.as_slice-ways.result.now c.index-ways-rank.result ws c.loop-rank-test.true c.requires.low (c.requires.small c.args.place c.in-Some.adds c.in-Some.is) }

pub loop-rank-preserved : goal.loop-rank-preserved
loop-rank-preserved c =
    let rs = c.args.reached.now in
    let ws : c.as_slice-ways.result.now ≡ (reached_at rs c.args.place).ways =
    read_ways rs c.args.place c.index-reached-place.result c.as_slice-ways.result.now c.requires.place c.as_slice-ways.ensures in
    let long : length c.as_slice-ways.result.now ≡ length (reached_at rs c.args.place).ways = λ i. length (ws i) in
    put_rank c.args.k rs c.args.added.now c.args.place c.loop-rank.rank c.in-Some.adds _ _ _ c.loop-rank.invariant c.requires.place (omega (arith, c.loop-rank-test.true, long)) c.in-Some.is
    (λ i. read_total rs c.args.place c.loop-rank.rank c.as_slice-ways.result.now c.index-ways-rank.result ws c.loop-rank-test.true i + c.in-Some.adds) c.in_ok-put.ensures

pub returns : goal.returns
returns c =
    let rs = c.args.reached.now in
    let ws : c.as_slice-ways.result.now ≡ (reached_at rs c.args.place).ways =
    read_ways rs c.args.place c.index-reached-place.result c.as_slice-ways.result.now c.requires.place c.as_slice-ways.ensures in
    let long : length c.as_slice-ways.result.now ≡ length (reached_at rs c.args.place).ways = λ i. length (ws i) in
    passed c.args.k rs c.args.added.now c.args.place c.loop-rank.rank c.loop-rank.kept.items c.loop-rank.invariant (omega (arith, c.loop-rank-test.false, c.loop-rank.auto.rank-end, long))
