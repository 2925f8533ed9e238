use Rattle.std.proofs.Common.{◌≡◌, ◌<◌, length, arith, sym, ap, ◌∙◌, List}
use Rattle.cost_terms.specs.declared.entries.Scored.{Scored}
use Rattle.plan_program.specs.Plans.{configs}
use Rattle.plan_certificate.specs.Steps.{names_of}
use Rattle.plan_certificate.specs.declared.certificate.Named.{Named}
use Rattle.plan_certificate.proofs.Aligned.{aligned_named, named_aligned}
use Rattle.plan_certificate.proofs.Years.{false_is, not_so, true_is}
use Rattle.plan_certificate.proofs.judging.names_accepted.Goals as goal

pub returns-then-not-same_names-clause-named : goal.returns-then-not-same_names-clause-named
returns-then-not-same_names-clause-named c =
    let t = c.args.table.now in
    let cert = c.args.certificate.now in
    let k = c.loop-year.year in
    false_is (λ a. not_so c.if-not-same_names.ensures (
    ap names_of c.named.ensures.value
    ∙ (named_aligned t cert c.layers-year-end.ensures.valid c.requires.valid (c.requires.valid.each_year ∙ c.requires.years) a k (omega (arith, c.loop-year-test.true, ap length c.layers-year-end.ensures.value)) ∙ sym (ap configs c.layer_of.ensures.value))))

pub returns-clause-named : goal.returns-clause-named
returns-clause-named c =
    true_is (aligned_named c.args.table.now c.args.certificate.now (c.requires.valid.each_year ∙ c.requires.years) (λ k h. c.loop-year.invariant k (omega (arith, h, c.loop-year-test.false, ap length c.layers-year-end.ensures.value))))
