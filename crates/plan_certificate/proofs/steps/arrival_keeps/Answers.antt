use Rattle.std.proofs.Common.{◌≡◌, ◌≢◌}
use Rattle.plan_certificate.proofs.Years.{arrival_later}
use Rattle.plan_certificate.proofs.steps.arrival_keeps.Goals as goal

pub returns : goal.returns
returns c =
    arrival_later c.args.rule c.args.table.now c.args.certificate.now c.args.year c.args.to.now c.keeps_from_all.result c.economy-economy.result.now c.layer_of.result.now c.named-names.result.now c.if-year-eq0.false
    c.economy-economy.ensures.value c.layer_of.ensures.value c.named-names.ensures.value c.keeps_from_all.ensures
