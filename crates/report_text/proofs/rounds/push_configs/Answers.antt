use Rattle.std.proofs.Common.{◌≡◌, ◌∙◌, ℕ, ◌+◌, ◌<◌, List, ap, ◌++◌, length, get_or, arith}
use Rattle.report_text.specs.Report.{chosen_line}
use Rattle.report_text.proofs.TextSteps.{numbered_step}
use Rattle.report_text.proofs.rounds.push_configs.Goals as goal

pub loop-k-preserved : goal.loop-k-preserved
loop-k-preserved c =
    let k = c.loop-k.k in
    let y = c.index-configs-k.result in
    let text = λ (p : ℕ × List ℕ). chosen_line p.0 p.1 in
    let within : k < length c.args.configs.now = omega (arith, c.loop-k-test.true) in
    let more : c.push_chosen.new.lines.items ≡ c.loop-k.lines.items ++ text (k + 1, get_or c.args.configs.now k y) =
    c.in_ok-push_chosen.ensures ∙ ap (λ (z : List ℕ). c.loop-k.lines.items ++ text (k + 1, z)) c.index-configs-k.is in
    numbered_step text c.args.configs.now k y _ _ _ within c.loop-k.invariant more
