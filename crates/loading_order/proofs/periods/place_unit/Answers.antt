use Rattle.std.proofs.Common.{◌≡◌, ◌+◌, ◌-◌, ◌≤◌, ◌^◌, ◌∙◌, sym, arith, length, min, get_or, ◌*◌}
use Rattle.std.proofs.lemmas.List.{length-set}
use Rattle.std.proofs.lemmas.List.Elements.{All-set}
use Rattle.std.proofs.Math.Nat.{mul-le-mul_left}
use Rattle.loading_order.specs.declared.periods.Period.{Period}
use Rattle.loading_order.specs.Maintenance.{most_free, place_hours, with_hours, no_period}
use Rattle.loading_order.proofs.PlaceSteps.{place_none, place_step, fits_more}
use Rattle.loading_order.proofs.periods.place_unit.Goals as goal

pub loop-step-preserved : goal.loop-step-preserved
loop-step-preserved c =
    let ps = c.loop-step.periods in
    let at = c.most_free-at.result in
    let part = c.min-part.result in
    let left = c.loop-step.left in
    let H = c.args.hours in
    let full = c.args.full in
    let n = length c.args.periods.now - (c.loop-step._step + 1) in
    let pe : part ≡ min left H = c.min-part.ensures in
    let ae : at ≡ most_free ps = c.most_free-at.ensures.value in
    let small : part ≤ left = omega (arith, pe) in
    let to : place_hours H full n (left - part) (with_hours ps at full part) ≡ place_hours H full n (left - min left H) (with_hours ps (most_free ps) full (min left H)) =
    (λ i. place_hours H full n (left - pe i) (with_hours ps (ae i) full (pe i))) in
    let step : place_hours H full (length c.args.periods.now - c.loop-step._step) left ps ≡ place_hours H full n (left - min left H) (with_hours ps (most_free ps) full (min left H)) =
    place_step H full (length c.args.periods.now - c.loop-step._step) n left ps (omega arith) c.if-left-eq0.false in (
      rw length-set c.loop-step.invariant.0,
      omega arith,
      (λ bound f. fits_more bound full left part at ps c.most_free-at.ensures.within small (c.loop-step.invariant.2 bound f)),
      to ∙ (sym step ∙ c.loop-step.invariant.3),
      (λ f. All-set (λ (p : Period). p.hours ≤ H) ps at (record { supply = (get_or ps at no_period).supply; need = (get_or ps at no_period).need + full * part; hours = part }) (omega (arith, pe)) (c.loop-step.invariant.4 f)),
    )

pub returns-then-left-eq0-clause-value : goal.returns-then-left-eq0-clause-value
returns-then-left-eq0-clause-value c =
    let h = c.loop-step.invariant.3 in
    sym (place_none c.args.hours c.args.full (length c.args.periods.now - c.loop-step._step) c.loop-step.left c.loop-step.periods c.if-left-eq0.true) ∙ h

pub most_free-at-requires-clause-fits : goal.most_free-at-requires-clause-fits
most_free-at-requires-clause-fits c = λ k d h.
    let f = c.loop-step.invariant.2 (2 ^ 62) c.requires.fits k d h in
    (f.0, omega (arith, f.1))

pub overflow_add-periods : goal.overflow_add-periods
overflow_add-periods c =
    let f = c.loop-step.invariant.2 (2 ^ 62) c.requires.fits c.most_free-at.result no_period c.most_free-at.ensures.within in
    let l : c.min-part.result ≤ c.loop-step.left = omega (arith, c.min-part.ensures) in
    omega (arith, f.1, mul-le-mul_left c.args.full l)

pub returns-after-loop-step-clause-bound : goal.returns-after-loop-step-clause-bound
returns-after-loop-step-clause-bound c = λ bound f k d h.
    let g = c.loop-step.invariant.2 bound f k d h in
    (g.0, omega (arith, g.1))

pub returns-then-left-eq0-clause-bound : goal.returns-then-left-eq0-clause-bound
returns-then-left-eq0-clause-bound c = λ bound f k d h.
    let g = c.loop-step.invariant.2 bound f k d h in
    (g.0, omega (arith, g.1))
