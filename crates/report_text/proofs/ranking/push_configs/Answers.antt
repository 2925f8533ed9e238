use Rattle.std.proofs.Common.{◌≡◌, ◌∙◌, ℕ, ◌+◌, List, ap, ◌++◌, get_or}
use Rattle.report_text.specs.Report.{chosen_line}
use Rattle.report_text.proofs.TextSteps.{numbered_step}
use Rattle.report_text.proofs.ranking.push_configs.Goals as goal

pub loop-k-preserved : goal.loop-k-preserved
loop-k-preserved c =
    let configs = c.args.configs.now in
    let k = c.loop-k.k in
    let text = λ (p : ℕ × List ℕ). chosen_line p.0 p.1 in
    let x = c.index-configs-k.result in
    let more : c.push_chosen.new.lines.items ≡ c.loop-k.lines.items ++ text (k + 1, get_or configs k x) =
    c.in_ok-push_chosen.ensures ∙ ap (λ (z : List ℕ). c.loop-k.lines.items ++ text (k + 1, z)) c.index-configs-k.is in
    numbered_step text configs k x _ _ _ c.loop-k-test.true c.loop-k.invariant more
