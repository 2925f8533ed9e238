use Rattle.std.proofs.Common.{ap, ◌<◌, Err, arith}
use Rattle.deck_check.specs.Readings.{cases}
use Rattle.deck_lines.specs.Deck.{body_of}
use Rattle.deck_tellings.specs.Checks.{IsChecked}
use Rattle.deck_tellings.specs.Checks.{DemandsChecked}
use Rattle.deck_tellings.proofs.CheckSteps.{checked_learns, checked_lost, fault_is, fault_learns, in_form, over_judged, past_learns, said_is, verdict_judged}
use Rattle.deck_tellings.proofs.LearnSteps.{lost_none}
use Rattle.deck_tellings.proofs.WhereErr.{on_err}
use Rattle.deck_tellings.proofs.checking.judge_typed.Goals as goal

pub returns-then-cases-case-clause-learns : goal.returns-then-cases-case-clause-learns
returns-then-cases-case-clause-learns g c =
    let d = body_of c.args.typed.now in
    let o = c.args.opened.now in
    let past : cases d < o.case = omega (arith, c.if-cases-case.true, c.cases.ensures.value, c.case-case.ensures.value) in
    past_learns {X = g.row.E.Denot} d o c.args.memory.now g.E.SimEngine.work c.args.engines.now past

pub returns-in_err-table-in-Ok-clause-err : goal.returns-in_err-table-in-Ok-clause-err
returns-in_err-table-in-Ok-clause-err g c =
    let d = body_of c.args.typed.now in
    let o = c.args.opened.now in
    let said = said_is d o c.years.result c.width.result c.lines.result.now c.in-Ok.certificate c.years.ensures.value c.width.ensures.value c.lines.ensures.value c.in-Ok.ensures.ok in
    let form = in_form c.readings_are_one.ensures d o c.in-Ok.certificate (omega (arith, c.if-cases-case.false, c.cases.ensures.value, c.case-case.ensures.value)) said in
    on_err _ _ (checked_lost {X = g.row.E.Denot} d o c.case-case.result c.args.memory.now c.answer_case.new.memory g.E.SimEngine.work c.args.engines.now c.answer_case.new.engines c.case-case.ensures.value
    c.years-years.ensures.valid.faultless form c.in_err-table-in-Ok.ensures.err)

pub returns-in-Table-clause-judged : goal.returns-in-Table-clause-judged
returns-in-Table-clause-judged g c =
    let d = body_of c.args.typed.now in
    let o = c.args.opened.now in
    let said = said_is d o c.years.result c.width.result c.lines.result.now c.in-Ok.certificate c.years.ensures.value c.width.ensures.value c.lines.ensures.value c.in-Ok.ensures.ok in
    let form = in_form c.readings_are_one.ensures d o c.in-Ok.certificate (omega (arith, c.if-cases-case.false, c.cases.ensures.value, c.case-case.ensures.value)) said in
    verdict_judged d o c.case-case.result c.in-Ok.certificate c.in-Table.table c.judge.result c.case-case.ensures.value c.years-years.ensures.valid.faultless form said (rw c.in-Table.is at c.in_ok-table-in-Ok.ensures.answer) c.judge.ensures.verdict

pub returns-in-Table-clause-learns : goal.returns-in-Table-clause-learns
returns-in-Table-clause-learns g c =
    let d = body_of c.args.typed.now in
    let o = c.args.opened.now in
    let said = said_is d o c.years.result c.width.result c.lines.result.now c.in-Ok.certificate c.years.ensures.value c.width.ensures.value c.lines.ensures.value c.in-Ok.ensures.ok in
    let form = in_form c.readings_are_one.ensures d o c.in-Ok.certificate (omega (arith, c.if-cases-case.false, c.cases.ensures.value, c.case-case.ensures.value)) said in
    checked_learns {X = g.row.E.Denot} d o c.case-case.result c.args.memory.now c.answer_case.new.memory g.E.SimEngine.work c.args.engines.now c.answer_case.new.engines c.case-case.ensures.value
    c.years-years.ensures.valid.faultless form c.in_ok-table-in-Ok.ensures.learns

pub returns-in-Ok-clause-judged : goal.returns-in-Ok-clause-judged
returns-in-Ok-clause-judged g c =
    let d = body_of c.args.typed.now in
    let o = c.args.opened.now in
    let said = said_is d o c.years.result c.width.result c.lines.result.now c.in-Ok.certificate c.years.ensures.value c.width.ensures.value c.lines.ensures.value c.in-Ok.ensures.ok in
    let form = in_form c.readings_are_one.ensures d o c.in-Ok.certificate (omega (arith, c.if-cases-case.false, c.cases.ensures.value, c.case-case.ensures.value)) said in
    over_judged d o c.case-case.result c.in-Over.refusal c.case-case.ensures.value c.years-years.ensures.valid.faultless form (rw c.in-Over.is at c.in_ok-table-in-Ok.ensures.answer)

pub returns-in-Ok-clause-learns : goal.returns-in-Ok-clause-learns
returns-in-Ok-clause-learns g c =
    let d = body_of c.args.typed.now in
    let o = c.args.opened.now in
    let said = said_is d o c.years.result c.width.result c.lines.result.now c.in-Ok.certificate c.years.ensures.value c.width.ensures.value c.lines.ensures.value c.in-Ok.ensures.ok in
    let form = in_form c.readings_are_one.ensures d o c.in-Ok.certificate (omega (arith, c.if-cases-case.false, c.cases.ensures.value, c.case-case.ensures.value)) said in
    checked_learns {X = g.row.E.Denot} d o c.case-case.result c.args.memory.now c.answer_case.new.memory g.E.SimEngine.work c.args.engines.now c.answer_case.new.engines c.case-case.ensures.value
    c.years-years.ensures.valid.faultless form c.in_ok-table-in-Ok.ensures.learns

pub returns-in-Err-OutOfMemory-clause-err : goal.returns-in-Err-OutOfMemory-clause-err
returns-in-Err-OutOfMemory-clause-err g c =
    let d = body_of c.args.typed.now in
    let o = c.args.opened.now in
    lost_none {X = g.row.E.Denot} (IsChecked d o) (DemandsChecked d o) d c.args.memory.now g.E.SimEngine.work c.args.engines.now

pub returns-clause-learns : goal.returns-clause-learns
returns-clause-learns g c =
    let d = body_of c.args.typed.now in
    let o = c.args.opened.now in
    let fault = c.in-Err-Form.ensures.form c.in-Err-Form.line (ap (λ z. Err z) c.in-Err-Form.field-0-is) in
    fault_learns {X = g.row.E.Denot} d o c.in-Err-Form.line c.args.memory.now g.E.SimEngine.work c.args.engines.now
    (fault_is d o c.years.result c.width.result c.lines.result.now c.in-Err-Form.line c.years.ensures.value c.width.ensures.value c.lines.ensures.value fault)
