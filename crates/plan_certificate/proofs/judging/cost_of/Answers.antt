use Rattle.std.proofs.Common.{◌≡◌, ◌+◌, ◌<◌, [], length, get_or, arith, sym, ap, ◌∙◌}
use Rattle.std.proofs.lemmas.List.{get_or_default}
use Rattle.plan_certificate.proofs.Walks.{walk_done, walk_fails, walk_more}
use Rattle.plan_certificate.proofs.judging.cost_of.Goals as goal

pub returns-in_err-cost-clause-none : goal.returns-in_err-cost-clause-none
returns-in_err-cost-clause-none c = λ _.
    let chosen = c.args.chosen.now in
    let k = c.loop-year.year in
    walk_fails c.args.table.now chosen k c.loop-year.before c.index-chosen-year.result c.loop-year.cost c.loop-year.invariant.walk c.loop-year-test.true
    (sym (c.index-chosen-year.is ∙ get_or_default chosen k c.index-chosen-year.result [] c.loop-year-test.true)) (c.step_to.ensures.none c.in_err-cost.was)

pub loop-year-preserved : goal.loop-year-preserved
loop-year-preserved c =
    let chosen = c.args.chosen.now in
    let k = c.loop-year.year in
    record {
      walk = walk_more c.args.table.now chosen k c.loop-year.before c.index-chosen-year.result c.loop-year.cost c.in_ok-cost.field-0 c.loop-year.invariant.walk c.in_ok-cost.ensures.some
          (omega (arith, c.loop-year-test.true, c.requires)) c.loop-year-test.true (sym (c.index-chosen-year.is ∙ get_or_default chosen k c.index-chosen-year.result [] c.loop-year-test.true));
      fits = c.in_ok-cost.ensures.fits;
      small = omega (arith, c.loop-year.invariant.small, c.in_ok-cost.ensures.small);
    }

pub returns-clause-some : goal.returns-clause-some
returns-clause-some c = walk_done c.args.table.now c.economy.ensures.valid c.args.chosen.now c.loop-year.year c.loop-year.before c.loop-year.cost (omega (arith, c.loop-year-test.false, c.loop-year.auto.year-end)) c.loop-year.invariant.walk
