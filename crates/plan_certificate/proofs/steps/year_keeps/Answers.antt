use Rattle.std.proofs.Common.{◌≡◌, ◌<◌, ◌∙◌, arith, length, refl, subst, ap}
use Rattle.std.proofs.lemmas.List.{get_or_default}
use Rattle.plan_program.specs.Plans.{layer_at, no_entry}
use Rattle.plan_certificate.specs.Certificate.{named_in}
use Rattle.plan_certificate.specs.Steps.{ArrivalKeeps, no_name}
use Rattle.plan_certificate.specs.declared.steps.Arrival.{Arrival}
use Rattle.plan_certificate.proofs.Aligned.{long_as}
use Rattle.plan_certificate.proofs.Years.{arrival_is, more_below}
use Rattle.plan_certificate.proofs.steps.year_keeps.Goals as goal

pub loop-j-preserved : goal.loop-j-preserved
loop-j-preserved c =
    let t = c.args.table.now in
    let cert = c.args.certificate.now in
    let k = c.args.year in
    let j = c.loop-j.j in
    let layer = c.layer_of-layer.result.now in
    let names = c.named-names.result.now in
    let b : j < length layer = c.loop-j-test.true in
    let d : j < length names = omega (arith, b, ap length c.layer_of-layer.ensures.value, ap length c.named-names.ensures.value, long_as (named_in cert k) (layer_at t k) (c.requires.aligned k c.requires.year)) in
    let to = arrival_is t cert k j c.economy.result.now layer names c.index-layer-j.result _ c.arrival_at-to.result c.economy.ensures.value c.layer_of-layer.ensures.value c.named-names.ensures.value
    (c.index-layer-j.is ∙ get_or_default layer j c.index-layer-j.result no_entry b) (get_or_default names j c.index-names-j.result no_name d) c.arrival_at-to.ensures.value in
    more_below j c.loop-j.invariant (subst (λ (a : Arrival). ArrivalKeeps c.args.rule t cert k a) to (c.if-not-arrival_keeps.ensures.0 refl))
