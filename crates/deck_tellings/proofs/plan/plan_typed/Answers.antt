use Rattle.std.proofs.Common.{◌∙◌, ap, ◌++◌, Err}
use Rattle.std.proofs.lemmas.Result.{on_ok_weaker}
use Rattle.deck_lines.specs.Deck.{body_of}
use Rattle.report_text.specs.Refusals.{refusal_line}
use Rattle.report_text.specs.declared.refusals.Refusal.{Refusal}
use Rattle.case_study.specs.Keys.{Demands}
use Rattle.case_study.specs.Listings.{IsTaken}
use Rattle.deck_tellings.proofs.LearnSteps.{lost_none, lost_of}
use Rattle.deck_tellings.proofs.OverSteps.{over_not_taken, over_refusal}
use Rattle.deck_tellings.proofs.PlanTold.{deck_learns, deck_lost, deck_lost_telling, deck_told, refusal_told}
use Rattle.deck_tellings.proofs.StudyOn.{deck_on}
use Rattle.deck_tellings.proofs.WhereErr.{on_err}
use Rattle.deck_tellings.proofs.plan.plan_typed.Goals as goal

pub returns-in_err-systems-clause-err : goal.returns-in_err-systems-clause-err
returns-in_err-systems-clause-err g c =
    let d = body_of c.args.typed.now in
    on_err c.from_residual.result _ (lost_none {X = g.row.E.Denot} (IsTaken d) (Demands d) d c.args.memory.now g.E.SimEngine.work c.args.engines.now)

pub returns-in_err-ids-in-Ok-clause-err : goal.returns-in_err-ids-in-Ok-clause-err
returns-in_err-ids-in-Ok-clause-err g c =
    on_err c.from_residual-in_err-ids-in-Ok.result _
    (deck_lost {X = g.row.E.Denot} (body_of c.args.typed.now) c.in-Ok.cases.items c.args.memory.now c.learn.new.self g.E.SimEngine.work c.args.engines.now c.learn.new.engines
    c.years-years.ensures.valid.faultless c.in-Ok.ensures.lists (rw c.deref-in-Ok.ensures.value at c.in_err-ids-in-Ok.ensures.err))

pub settle_cases-requires-clause-on : goal.settle_cases-requires-clause-on
settle_cases-requires-clause-on g c κs within =
    deck_on {X = g.row.E.Denot} c.args.typed.now c.in-Ok.cases.items c.in_ok-ids-in-Ok.ids.items c.new-plan.result c.shelf.result.now c.args.memory.now c.learn.new.self g.E.SimEngine.work c.args.engines.now c.learn.new.engines
    (rw c.deref-in-Ok-3.ensures.value at (rw c.deref-in-Ok-2.ensures.value at c.new-plan.ensures)) c.shelf.ensures.value c.years-years.ensures.valid.faultless c.in-Ok.ensures.lists c.in_ok-ids-in-Ok.ensures.numbers
    (rw c.deref-in-Ok.ensures.value at c.in_ok-ids-in-Ok.ensures.learns)

pub returns-in_err-dones-in-Ok-clause-err : goal.returns-in_err-dones-in-Ok-clause-err
returns-in_err-dones-in-Ok-clause-err g c =
    let d = body_of c.args.typed.now in
    on_err c.from_residual-in_err-dones-in-Ok.result _
    (lost_of {X = g.row.E.Denot} (IsTaken d) (Demands d) d c.args.memory.now c.learn.new.self g.E.SimEngine.work c.args.engines.now c.learn.new.engines 0
    (deck_learns {X = g.row.E.Denot} d c.in-Ok.cases.items c.args.memory.now c.learn.new.self g.E.SimEngine.work c.args.engines.now c.learn.new.engines c.years-years.ensures.valid.faultless c.in-Ok.ensures.lists
    (rw c.deref-in-Ok.ensures.value at c.in_ok-ids-in-Ok.ensures.learns)))

pub tell_by_first-requires-clause-on : goal.tell_by_first-requires-clause-on
tell_by_first-requires-clause-on g c κs within =
    deck_on {X = g.row.E.Denot} c.args.typed.now c.in-Ok.cases.items c.in_ok-ids-in-Ok.ids.items c.new-plan.result c.shelf-in-Ok.result.now c.args.memory.now c.learn.new.self g.E.SimEngine.work c.args.engines.now c.learn.new.engines
    (rw c.deref-in-Ok-3.ensures.value at (rw c.deref-in-Ok-2.ensures.value at c.new-plan.ensures)) c.shelf-in-Ok.ensures.value c.years-years.ensures.valid.faultless c.in-Ok.ensures.lists c.in_ok-ids-in-Ok.ensures.numbers
    (rw c.deref-in-Ok.ensures.value at c.in_ok-ids-in-Ok.ensures.learns)

pub returns-in-Ok-clause-told : goal.returns-in-Ok-clause-told
returns-in-Ok-clause-told g c =
    on_ok_weaker c.tell_by_first.result
    (λ told. deck_told {X = g.row.E.Denot} (body_of c.args.typed.now) c.in-Ok.cases.items c.args.memory.now c.learn.new.self g.E.SimEngine.work c.args.engines.now c.learn.new.engines c.tell_by_first.new.engines
    c.args.text.now c.tell_by_first.new.text c.years-years.ensures.valid.faultless c.in-Ok.ensures.lists (rw c.deref-in-Ok.ensures.value at c.in_ok-ids-in-Ok.ensures.learns) told)
    (rw c.new-plan.ensures at c.tell_by_first.ensures.told)

pub returns-in-Ok-clause-err : goal.returns-in-Ok-clause-err
returns-in-Ok-clause-err g c =
    on_err c.tell_by_first.result _
    (deck_lost_telling {X = g.row.E.Denot} (body_of c.args.typed.now) c.in-Ok.cases.items c.args.memory.now c.learn.new.self g.E.SimEngine.work c.args.engines.now c.learn.new.engines c.tell_by_first.new.engines
    c.years-years.ensures.valid.faultless c.in-Ok.ensures.lists (rw c.deref-in-Ok.ensures.value at c.in_ok-ids-in-Ok.ensures.learns) c.tell_by_first.ensures.gone)

pub returns-in-Err-OutOfMemory-clause-err : goal.returns-in-Err-OutOfMemory-clause-err
returns-in-Err-OutOfMemory-clause-err g c =
    let d = body_of c.args.typed.now in
    lost_none {X = g.row.E.Denot} (IsTaken d) (Demands d) d c.args.memory.now g.E.SimEngine.work c.args.engines.now

pub returns-clause-told : goal.returns-clause-told
returns-clause-told g c =
    let d = body_of c.args.typed.now in
    let r = c.in-Err-Over.refusal in
    let first = c.in-Err-Over.ensures.over r (ap (λ z. Err z) c.in-Err-Over.field-0-is) in
    on_ok_weaker c.write_refusal.result
    (λ text. refusal_told {X = g.row.E.Denot} d r c.args.memory.now g.E.SimEngine.work c.args.engines.now c.args.text.now c.write_refusal.new.text
    (over_refusal d r c.years-years.ensures.valid.faultless first) (over_not_taken c.listings_are_one.ensures d r first)
    (text ∙ ap (λ (z : Refusal). c.args.text.now.items ++ refusal_line z) c.in-Err-Over.refusal-is))
    c.write_refusal.ensures.appended

pub returns-clause-err : goal.returns-clause-err
returns-clause-err g c =
    let d = body_of c.args.typed.now in
    on_err c.write_refusal.result _ (lost_none {X = g.row.E.Denot} (IsTaken d) (Demands d) d c.args.memory.now g.E.SimEngine.work c.args.engines.now)
