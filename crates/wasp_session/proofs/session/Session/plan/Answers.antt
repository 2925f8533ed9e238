use Rattle.std.proofs.Common.{◌≡◌, ap, refl, subst, ◌+◌, true, false, IsTrue}
use Rattle.deck_lines.specs.declared.line.Line.TheVariants as lines
use Rattle.wasp_session.specs.State.{State}
use Rattle.wasp_session.proofs.LineSteps.{plan_does}
use Rattle.wasp_session.proofs.Wanting.{plan_wanting, wanting_at}
use Rattle.wasp_session.proofs.session.Session.plan.Goals as goal

pub returns-then-self-clause-err : goal.returns-then-self-clause-err
returns-then-self-clause-err g c =
    wanting_at {X = g.row.E.Denot} lines.Plan c.args.self.now c.args.self.now g.E.SimEngine.work c.args.engines.now refl refl refl
    (subst (λ (s : State). IsTrue s.refused) c.self.view_is c.if-self.true)

pub returns-in-Ok-clause-does : goal.returns-in-Ok-clause-does
returns-in-Ok-clause-does g c =
    plan_does {X = g.row.E.Denot} c.args.self.now _ c.tell_plan.new.self _ g.E.SimEngine.work c.args.engines.now c.tell_plan.new.engines c.args.text.now c.tell_plan.new.text
    (ap (λ (s : State). record s { plans = s.plans + 1; refused = true }) c.self.view_is) c.tell_plan.ensures.state
    (ap (λ (s : State). record s { refused = false }) c.self-2.view_is)
    (subst (λ (s : State). s.refused ≡ false) c.self.view_is c.if-self.false) c.in-Ok.ensures.told

pub returns-in-Err-clause-err : goal.returns-in-Err-clause-err
returns-in-Err-clause-err g c =
    plan_wanting {X = g.row.E.Denot} c.args.self.now _ c.tell_plan.new.self g.E.SimEngine.work c.args.engines.now c.tell_plan.new.engines
    (ap (λ (s : State). record s { plans = s.plans + 1; refused = true }) c.self.view_is) c.tell_plan.ensures.state c.in-Err.ensures.err
