use Rattle.std.proofs.Common.{sym, subst}
use Rattle.case_study.specs.Case.{IsTableOf}
use Rattle.case_study.specs.Listings.{Tunnels}
use Rattle.std.proofs.lemmas.Result.{on_ok_weaker}
use Rattle.deck_lines.specs.Deck.{body_of}
use Rattle.deck_tellings.proofs.AcceptedSteps.{report_accepted, same_width}
use Rattle.deck_tellings.proofs.CaseTellings.{case_told, on_written}
use Rattle.deck_tellings.proofs.plan.tell_case.Goals as goal

pub report_case-requires-clause-solution : goal.report_case-requires-clause-solution
report_case-requires-clause-solution g c κs within = record { come = c.table-table.ensures.valid.come; outcome = c.table-table.ensures.valid.outcome }

pub returns-clause-told : goal.returns-clause-told
returns-clause-told g c =
    let e = g.E.SimEngine in
    let s = c.args.study.now in
    let d = body_of s.deck in
    let report = c.in_ok-report.report in
    let is = c.in_ok-report.ensures in
    let valid = c.case.ensures.valid in
    let width = same_width d s.case s.tunnels c.args.done.table report.table (subst (λ (ts : Tunnels). IsTableOf d s.case ts c.args.done.table) (sym c.requires.own) c.requires.table.is) c.requires.table.width is.report.table in
    let accepted = report_accepted c.reports_read_back.ensures c.solutions_are_certified.ensures c.readings_are_one.ensures d s.case s.tunnels report s.lists
    valid.typed.faultless valid.case.1 c.requires.own valid.lists is.report width is.table is.in_form is.printable in
    on_ok_weaker c.write_case.result
    (λ text. case_told d s.case s.tunnels report (e.work c.args.engine.now) (e.work c.report_case.new.engine) c.args.text.now c.write_case.new.text c.case.result
    c.case.ensures.value c.requires.own is.report accepted text is.detailed c.report_case.ensures.work)
    c.write_case.ensures.appended

pub returns-clause-goes_on : goal.returns-clause-goes_on
returns-clause-goes_on g c = on_written c.write_case.result _ _ _ c.write_case.ensures.appended c.write_case.ensures.kept
