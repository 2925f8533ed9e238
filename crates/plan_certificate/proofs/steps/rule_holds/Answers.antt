use Rattle.std.proofs.Common.{◌≡◌, ◌<◌, length, arith, ap, refl, ◌∙◌}
use Rattle.plan_certificate.proofs.Aligned.{rule_years, years_rule}
use Rattle.plan_certificate.proofs.Years.{false_is, more_below, not_so, true_is}
use Rattle.plan_certificate.proofs.steps.rule_holds.Goals as goal

pub returns-then-not-year_keeps : goal.returns-then-not-year_keeps
returns-then-not-year_keeps c =
    false_is (λ r. not_so c.if-not-year_keeps.ensures (rule_years c.args.rule c.args.table.now c.args.certificate.now c.requires.aligned r c.loop-year.year (omega (arith, c.loop-year-test.true, ap length c.layers-year-end.ensures.value))))

pub returns : goal.returns
returns c =
    true_is (years_rule c.args.rule c.args.table.now c.args.certificate.now c.layers-year-end.ensures.valid c.requires.aligned (c.requires.valid.each_year ∙ c.requires.years)
    (λ k h. c.loop-year.invariant k (omega (arith, h, c.loop-year-test.false, ap length c.layers-year-end.ensures.value))))

pub loop-year-preserved : goal.loop-year-preserved
loop-year-preserved c = more_below c.loop-year.year c.loop-year.invariant (c.if-not-year_keeps.ensures.0 refl)
