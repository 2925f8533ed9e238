use Rattle.std.proofs.Common.{◌*◌, ◌<◌, ◌≤◌, ◌++◌, ◌^◌, [], ◌∷◌, length, take, sym, ap, ◌∙◌, arith, get_or}
use Rattle.std.proofs.lemmas.List.{take_more_set, take_all}
use Rattle.std.proofs.lemmas.List.Elements.{All-push}
use Rattle.std.proofs.Math.Nat.{mul-le-mul}
use Rattle.loading_order.specs.declared.periods.Period.{Period}
use Rattle.loading_order.specs.Maintenance.{starting}
use Rattle.loading_order.proofs.TurnSteps.{starting_more, length-starting}
use Rattle.loading_order.proofs.periods.start_periods.Goals as goal

pub loop-m-preserved : goal.loop-m-preserved
loop-m-preserved c =
    let m = c.loop-m.m in
    let H = c.args.hours in
    let cap = get_or c.args.capacities.now m 0 in
    let peak = get_or c.args.peaks.now m 0 in
    let h = c.loop-m-test.true in
    let new : Period = record { supply = cap * H; need = peak * H; hours = 0 } in
    let w = take_more_set c.loop-m.periods m new (omega (arith, c.requires.room, c.loop-m.auto.periods)) in
    let cs : cap ≤ 2 ^ 40 = omega (arith, c.requires.capacities m 0 (omega (arith, c.requires.same))) in
    let ps : peak ≤ 2 ^ 40 = omega (arith, c.requires.peaks m 0 h) in (
      w ∙ (ap (λ qs. qs ++ new ∷ []) c.loop-m.invariant.0 ∙ sym (starting_more H c.args.capacities.now c.args.peaks.now m h c.requires.same)),
      rw w (All-push (λ (p : Period). (p.supply < 2 ^ 62) × (p.need < 2 ^ 61) × (p.hours ≤ H)) (take m c.loop-m.periods) new c.loop-m.invariant.1
          (omega (arith, mul-le-mul cs c.requires.hours), omega (arith, mul-le-mul ps c.requires.hours), omega arith)),
    )

pub returns-clause-value : goal.returns-clause-value
returns-clause-value c =
    let n = length c.args.peaks.now in
    sym (take_all c.loop-m.m c.loop-m.periods (omega (arith, c.requires.room, c.loop-m.auto.periods, c.loop-m-test.false)))
    ∙ (c.loop-m.invariant.0 ∙ take_all c.loop-m.m (starting c.args.hours c.args.capacities.now c.args.peaks.now) (omega (arith, length-starting c.args.hours c.args.capacities.now c.args.peaks.now c.requires.same, c.loop-m-test.false)))
