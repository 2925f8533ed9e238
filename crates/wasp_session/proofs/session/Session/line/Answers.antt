use Rattle.std.proofs.Common.{◌∙◌, refl, subst, IsTrue}
use Rattle.deck_lines.specs.declared.line.Line.TheVariants as lines
use Rattle.wasp_session.specs.State.{State}
use Rattle.wasp_session.proofs.LineSteps.{at_cert, at_drop, at_set, blank_line, end_line, quiet_line, same_line}
use Rattle.wasp_session.proofs.Wanting.{same_wanting, wanting_at}
use Rattle.deck_tellings.proofs.WhereErr.{on_err}
use Rattle.wasp_session.proofs.session.Session.line.Goals as goal

pub returns-then-self-clause-err : goal.returns-then-self-clause-err
returns-then-self-clause-err g c =
    wanting_at {X = g.row.E.Denot} c.args.line c.args.self.now c.args.self.now g.E.SimEngine.work c.args.engines.now refl refl refl (subst (λ (s : State). IsTrue s.refused) c.self.view_is c.if-self.true)

pub returns-in_err-edit-in-Set-clause-err : goal.returns-in_err-edit-in-Set-clause-err
returns-in_err-edit-in-Set-clause-err g c =
    on_err _ _ (wanting_at {X = g.row.E.Denot} c.args.line c.args.self.now c.edit.new.self g.E.SimEngine.work c.args.engines.now c.in_err-edit-in-Set.ensures.err_deck c.in_err-edit-in-Set.ensures.command c.in_err-edit-in-Set.ensures.memory (c.in_err-edit-in-Set.ensures.err.1 refl))

pub returns-in_err-end-in-End-clause-err : goal.returns-in_err-end-in-End-clause-err
returns-in_err-end-in-End-clause-err g c =
    on_err _ _ (wanting_at {X = g.row.E.Denot} c.args.line c.args.self.now c.end.new.self g.E.SimEngine.work c.args.engines.now c.in_err-end-in-End.ensures.deck c.in_err-end-in-End.ensures.command c.in_err-end-in-End.ensures.memory (c.in_err-end-in-End.ensures.err.1 refl))

pub returns-in_err-keep-in-Cert-clause-err : goal.returns-in_err-keep-in-Cert-clause-err
returns-in_err-keep-in-Cert-clause-err g c =
    on_err _ _ (wanting_at {X = g.row.E.Denot} c.args.line c.args.self.now c.keep.new.self g.E.SimEngine.work c.args.engines.now c.in_err-keep-in-Cert.ensures.deck c.in_err-keep-in-Cert.ensures.command c.in_err-keep-in-Cert.ensures.memory (c.in_err-keep-in-Cert.ensures.err.1 refl))

pub returns-in_err-plan-in-Plan-clause-err : goal.returns-in_err-plan-in-Plan-clause-err
returns-in_err-plan-in-Plan-clause-err g c =
    on_err _ _ (same_wanting {X = g.row.E.Denot} c.args.line lines.Plan c.args.self.now c.plan.new.self g.E.SimEngine.work c.args.engines.now c.plan.new.engines c.in-Plan.is c.in_err-plan-in-Plan.ensures.err)

pub returns-in_ok-edit-in-Set-clause-does : goal.returns-in_ok-edit-in-Set-clause-does
returns-in_ok-edit-in-Set-clause-does g c =
    quiet_line {X = g.row.E.Denot} c.args.line (lines.Set c.in-Set.statement) c.args.self.now c.edit.new.self g.E.SimEngine.work c.args.engines.now c.args.text.now c.in-Set.is refl (λ none. none) (λ key none. none)
    (c.in_ok-edit-in-Set.ensures.deck ∙ at_set c.args.self.now c.in-Set.statement)

pub returns-in-Drop-clause-does : goal.returns-in-Drop-clause-does
returns-in-Drop-clause-does g c =
    quiet_line {X = g.row.E.Denot} c.args.line (lines.Drop c.in-Drop.head) c.args.self.now c.leave_out.new.self g.E.SimEngine.work c.args.engines.now c.args.text.now c.in-Drop.is refl (λ none. none) (λ key none. none)
    (c.leave_out.ensures ∙ at_drop c.args.self.now c.in-Drop.head)

pub returns-in_ok-plan-in-Plan-clause-does : goal.returns-in_ok-plan-in-Plan-clause-does
returns-in_ok-plan-in-Plan-clause-does g c =
    same_line {X = g.row.E.Denot} c.args.line lines.Plan c.args.self.now c.plan.new.self g.E.SimEngine.work c.args.engines.now c.plan.new.engines c.args.text.now c.plan.new.text c.in-Plan.is c.in_ok-plan-in-Plan.ensures.does

pub returns-in_ok-end-in-End-clause-does : goal.returns-in_ok-end-in-End-clause-does
returns-in_ok-end-in-End-clause-does g c =
    end_line {X = g.row.E.Denot} c.args.line c.args.self.now c.end.new.self g.E.SimEngine.work c.args.engines.now c.args.text.now c.end.new.text c.in-End.is c.in_ok-end-in-End.ensures.text c.in_ok-end-in-End.ensures.same

pub returns-in-Check-clause-does : goal.returns-in-Check-clause-does
returns-in-Check-clause-does g c =
    quiet_line {X = g.row.E.Denot} c.args.line (lines.Check c.in-Check.case) c.args.self.now c.begin.new.self g.E.SimEngine.work c.args.engines.now c.args.text.now c.in-Check.is refl (λ none. none) (λ key none. none)
    c.begin.ensures

pub returns-in_ok-keep-in-Cert-clause-does : goal.returns-in_ok-keep-in-Cert-clause-does
returns-in_ok-keep-in-Cert-clause-does g c =
    quiet_line {X = g.row.E.Denot} c.args.line (lines.Cert c.in-Cert.line) c.args.self.now c.keep.new.self g.E.SimEngine.work c.args.engines.now c.args.text.now c.in-Cert.is refl (λ none. none) (λ key none. none)
    (c.in_ok-keep-in-Cert.ensures.state ∙ at_cert c.args.self.now c.in-Cert.line)

pub returns-in_ok-check-in-EndCheck-clause-does : goal.returns-in_ok-check-in-EndCheck-clause-does
returns-in_ok-check-in-EndCheck-clause-does g c =
    same_line {X = g.row.E.Denot} c.args.line lines.EndCheck c.args.self.now c.check.new.self g.E.SimEngine.work c.args.engines.now c.check.new.engines c.args.text.now c.check.new.text c.in-EndCheck.is c.in_ok-check-in-EndCheck.ensures.does

pub returns-in-Blank-clause-does : goal.returns-in-Blank-clause-does
returns-in-Blank-clause-does g c =
    blank_line {X = g.row.E.Denot} c.args.line c.args.self.now g.E.SimEngine.work c.args.engines.now c.args.text.now c.in-Blank.is
