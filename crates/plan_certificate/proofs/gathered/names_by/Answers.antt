use Rattle.plan_certificate.proofs.Marks.{numbered_step}
use Rattle.plan_certificate.proofs.Orders.{numbered_none}
use Rattle.plan_certificate.proofs.gathered.names_by.Goals as goal

pub loop-place-init : goal.loop-place-init
loop-place-init c = numbered_none c.args.lines.now c.args.year c.new-names.result.items c.new-names.ensures.items

pub loop-place-preserved : goal.loop-place-preserved
loop-place-preserved c =
    numbered_step c.args.lines.now c.args.year c.loop-place.place c.loop-place.names.items c.add_name.new.names.items c.index-lines-place.result c.loop-place.invariant c.index-lines-place.is c.loop-place-test.true c.in_ok-add_name.ensures
