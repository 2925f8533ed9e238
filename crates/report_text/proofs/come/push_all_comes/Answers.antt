use Rattle.std.proofs.Common.{◌≡◌, ◌∙◌, ℕ, ◌+◌, ◌<◌, List, [], Option, ap, ◌++◌, length, get_or, slice_index_or, arith}
use Rattle.std.proofs.lemmas.List.{get_or_default}
use Rattle.cost_terms.specs.declared.entries.Scored.{Scored}
use Rattle.plan_program.specs.Plans.{layer_at}
use Rattle.report_text.specs.Lines.{texts}
use Rattle.report_text.specs.Report.{come_lines}
use Rattle.report_text.proofs.TextSteps.{text_step}
use Rattle.report_text.proofs.come.push_all_comes.Goals as goal

pub loop-k-preserved : goal.loop-k-preserved
loop-k-preserved c =
    let t = c.args.table.now in
    let come = c.args.come.now in
    let k = c.loop-k.k in
    let text = λ (n : ℕ). come_lines (n + 1) (layer_at t n) (slice_index_or come n []) in
    let layers : c.layers-layers.result.now ≡ t.layers = c.layers-layers.ensures.value in
    let layer : c.entries.result.now ≡ layer_at t k =
    c.entries.ensures.value ∙ c.index-layers-k.is ∙ get_or_default c.layers-layers.result.now k c.index-layers-k.result [] c.loop-k-test.true ∙ ap (λ (xs : List (List Scored)). get_or xs k []) layers in
    let years : k < length come = omega (arith, c.requires.years, ap length layers) in
    let costs : c.as_slice.result.now ≡ slice_index_or come k [] = c.as_slice.ensures ∙ c.index-come-k.is ∙ get_or_default come k c.index-come-k.result [] years in
    let more : c.push_comes.new.lines.items ≡ c.loop-k.lines.items ++ text k =
    c.in_ok-push_comes.ensures ∙ ap (λ (xs : List Scored). c.loop-k.lines.items ++ come_lines (k + 1) xs c.as_slice.result.now) layer
    ∙ ap (λ (xs : List (Option ℕ)). c.loop-k.lines.items ++ come_lines (k + 1) (layer_at t k) xs) costs in
    text_step text _ _ _ _ c.loop-k.invariant more

pub returns : goal.returns
returns c =
    let t = c.args.table.now in
    let all : c.loop-k.k ≡ length t.layers = omega (arith, ap length c.layers-layers.ensures.value) in
    c.loop-k.invariant ∙ ap (λ (n : ℕ). c.args.lines.now.items ++ texts n (λ k. come_lines (k + 1) (layer_at t k) (slice_index_or c.args.come.now k []))) all
