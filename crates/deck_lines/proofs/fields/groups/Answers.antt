use Rattle.std.proofs.lemmas.Result.{err_from_is_err_and}
use Rattle.deck_lines.proofs.FieldSteps.{groups_short, groups_enough, groups_more, groups_fail}
use Rattle.deck_lines.proofs.fields.groups.Goals as goal

pub returns-then-done-form : goal.returns-then-done-form
returns-then-done-form c = rw c.at.ensures (groups_short c.loop-done.out.items c.args.end c.args.form.now.group.now c.args.form.now.least c.args.form.now.most c.loop-done.done c.loop-done.words _ c.loop-done-test.true c.if-is_empty.ensures c.if-done-form.true c.loop-done.invariant)

pub returns-then-is_empty : goal.returns-then-is_empty
returns-then-is_empty c = groups_enough c.loop-done.out.items c.args.end c.args.form.now.group.now c.args.form.now.least c.args.form.now.most c.loop-done.done c.loop-done.words _ c.loop-done-test.true c.if-is_empty.ensures c.if-done-form.false c.loop-done.invariant

pub returns-in_err-fields : goal.returns-in_err-fields
returns-in_err-fields c =
    let p = err_from_is_err_and c.from_residual.result c.from_residual.ensures.1 in
    let w = c.if-is_empty.ensures in
    rw (p.1, p.2) (groups_fail c.in_err-fields.field-0.0 c.loop-done.out.items c.args.end c.args.form.now.group.now c.args.form.now.least c.args.form.now.most c.loop-done.done w.0 w.1 c.loop-done.words _ c.loop-done-test.true w.2 c.in_err-fields.ensures c.loop-done.invariant)

pub loop-done-preserved : goal.loop-done-preserved
loop-done-preserved c =
    let w = c.if-is_empty.ensures in
    groups_more c.loop-done.out.items c.args.end c.args.form.now.group.now c.args.form.now.least c.args.form.now.most c.loop-done.done w.0 w.1 c.loop-done.words c.fields.new.out.items c.fields.new.words _ c.loop-done-test.true w.2 c.in_ok-fields.ensures c.loop-done.invariant
