use Rattle.std.proofs.Common.{◌≡◌, ◌∙◌, ℕ, ap, ◌++◌, get_or, slice_index_or, None}
use Rattle.std.proofs.lemmas.List.{get_or_default}
use Rattle.cost_terms.specs.declared.entries.Scored.{Scored}
use Rattle.plan_program.specs.Plans.{entry_at, no_entry}
use Rattle.report_text.specs.Report.{come_line}
use Rattle.report_text.proofs.TextSteps.{text_step}
use Rattle.report_text.proofs.come.push_comes.Goals as goal

pub loop-i-preserved : goal.loop-i-preserved
loop-i-preserved c =
    let layer = c.args.layer.now in
    let come = c.args.come.now in
    let i = c.loop-i.i in
    let line = λ (k : ℕ). come_line c.args.year (entry_at layer k).config (slice_index_or come k None) in
    let at : get_or layer i c.index-layer-i.result ≡ entry_at layer i = get_or_default layer i c.index-layer-i.result no_entry c.loop-i-test.true in
    let more : c.push_come.new.lines.items ≡ c.loop-i.lines.items ++ line i =
    c.in_ok-push_come.ensures ∙ ap (λ (e : Scored). c.loop-i.lines.items ++ come_line c.args.year e.config (slice_index_or come i None)) at in
    text_step line _ _ _ _ c.loop-i.invariant more
