use Rattle.std.proofs.Common.{◌≡◌, ◌∙◌, ℕ, ◌+◌, ◌<◌, List, ap, ◌++◌, length, get_or, arith}
use Rattle.report_text.specs.Report.{year_text}
use Rattle.report_text.specs.declared.data.PlanYear.{PlanYear}
use Rattle.report_text.proofs.TextSteps.{numbered_step}
use Rattle.report_text.proofs.case.push_plan.Goals as goal

pub loop-k-preserved : goal.loop-k-preserved
loop-k-preserved c =
    let d = c.args.report.now in
    let k = c.loop-k.k in
    let y = c.index-years-k.result in
    let text = λ (p : ℕ × PlanYear). year_text d.conditions d.greatest p.0 p.1 in
    let years : c.as_slice-years.result.now ≡ d.years = c.as_slice-years.ensures in
    let within : k < length d.years = omega (arith, ap length years) in
    let at : y ≡ get_or d.years k y = c.index-years-k.is ∙ ap (λ (ys : List PlanYear). get_or ys k y) years in
    let more : c.push_year.new.lines.items ≡ c.loop-k.lines.items ++ text (k + 1, get_or d.years k y) =
    c.in_ok-push_year.ensures ∙ ap (λ (z : PlanYear). c.loop-k.lines.items ++ text (k + 1, z)) at in
    numbered_step text d.years k y _ _ _ within c.loop-k.invariant more
