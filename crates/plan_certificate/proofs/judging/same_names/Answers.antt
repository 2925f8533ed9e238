use Rattle.std.proofs.Common.{◌≡◌, ◌<◌, arith, sym, ap, ◌∙◌}
use Rattle.std.proofs.lemmas.List.{get_or_default}
use Rattle.cost_terms.specs.declared.entries.Scored.{Scored}
use Rattle.plan_program.specs.Plans.{entry_at, no_entry}
use Rattle.plan_certificate.specs.Steps.{name_at, no_name}
use Rattle.plan_certificate.specs.declared.certificate.Named.{Named}
use Rattle.plan_certificate.proofs.Aligned.{config_as, long_as, same_lists}
use Rattle.plan_certificate.proofs.Years.{false_is, not_so, true_is}
use Rattle.plan_certificate.proofs.judging.same_names.Goals as goal

pub returns-then-not-is_same : goal.returns-then-not-is_same
returns-then-not-is_same c =
    let names = c.args.names.now in
    let layer = c.args.layer.now in
    let i = c.loop-i.i in
    false_is (λ e. not_so c.if-not-is_same.ensures (
    ap (λ (m : Named). m.config) (get_or_default names i c.index-names-i.result no_name (omega (arith, c.loop-i-test.true, long_as names layer e)))
    ∙ (config_as names layer i e ∙ sym (ap (λ (s : Scored). s.config) (get_or_default layer i c.index-layer-i.result no_entry c.loop-i-test.true)))))

pub returns : goal.returns
returns c = true_is (same_lists c.args.names.now c.args.layer.now c.if-names-layer.false (λ i b. c.loop-i.invariant i (omega (arith, b, c.loop-i-test.false))))
