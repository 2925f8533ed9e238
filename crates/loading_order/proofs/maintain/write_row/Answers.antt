use Rattle.std.proofs.Common.{◌≡◌, ◌+◌, ◌*◌, ◌<◌, ◌++◌, List, length, take, drop, set, ap, ◌∙◌, arith, get_or, ⊎_elim, inl, inr}
use Rattle.std.proofs.lemmas.Bool.{cases_eq}
use Rattle.std.proofs.lemmas.List.{get_or-set_same, get_or-set_other}
use Rattle.loading_order.specs.declared.periods.Period.{Period}
use Rattle.loading_order.specs.Maintenance.{availability, open_again, no_period}
use Rattle.loading_order.proofs.TurnSteps.{open_more, open_at, opened}
use Rattle.loading_order.proofs.maintain.write_row.Goals as goal

pub loop-m-preserved : goal.loop-m-preserved
loop-m-preserved c =
    let ps = c.args.periods.now in
    let m = c.loop-m.m in
    let h = c.loop-m-test.true in
    let v = c.loop-m.invariant in
    let at = c.args.place * length ps + m in
    let front : List Period = open_again (take m ps) ++ drop m ps in
    let old : get_or c.loop-m.periods m no_period ≡ get_or ps m no_period = ap (λ qs. get_or qs m no_period) v.opened ∙ open_at ps m h in
    let within : at < length c.loop-m.room = omega (arith, c.requires.room, c.loop-m.auto.room, h) in
    record {
      opened = (λ i. set (v.opened i) m (opened (old i))) ∙ open_more ps m h;
      row = λ j l. ⊎_elim
          (λ e. rw e (get_or-set_same c.loop-m.room at c.availability.result 0 within ∙ (c.availability.ensures ∙ ap (λ (p : Period). availability c.args.unit.now.outage p.hours c.args.hours) old)))
          (λ n. get_or-set_other c.loop-m.room at (c.args.place * length ps + j) c.availability.result 0 (λ q. n (omega (arith, q))) ∙ v.row j (omega (arith, n)))
          (cases_eq j m);
      rest = λ k side. ⊎_elim
          (λ b. get_or-set_other c.loop-m.room at k c.availability.result 0 (λ q. omega (arith, q, b)) ∙ v.rest k (inl b))
          (λ b. get_or-set_other c.loop-m.room at k c.availability.result 0 (λ q. omega (arith, q, b)) ∙ v.rest k (inr (omega (arith, b))))
          side;
    }
