use Rattle.std.proofs.Common.{◌≡◌, ◌∙◌, ℕ, ◌+◌, ap, ◌++◌, get_or}
use Rattle.best_plans.specs.declared.ranked.Ranked.{Ranked}
use Rattle.report_text.specs.Ranking.{rank_text}
use Rattle.report_text.proofs.TextSteps.{numbered_step}
use Rattle.report_text.proofs.ranking.push_ranks.Goals as goal

pub loop-k-preserved : goal.loop-k-preserved
loop-k-preserved c =
    let ranking = c.args.ranking.now in
    let k = c.loop-k.k in
    let text = λ (p : ℕ × Ranked). rank_text p.0 p.1 in
    let x = c.index-ranking-k.result in
    let more : c.push_rank.new.lines.items ≡ c.loop-k.lines.items ++ text (k + 1, get_or ranking k x) =
    c.in_ok-push_rank.ensures ∙ ap (λ (z : Ranked). c.loop-k.lines.items ++ text (k + 1, z)) c.index-ranking-k.is in
    numbered_step text ranking k x _ _ _ c.loop-k-test.true c.loop-k.invariant more
