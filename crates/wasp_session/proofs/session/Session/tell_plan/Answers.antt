use Rattle.std.proofs.lemmas.Result.{on_ok_weaker}
use Rattle.deck_lines.specs.Deck.{body_of}
use Rattle.wasp_session.specs.State.{State}
use Rattle.wasp_session.specs.Tasks.{task_of}
use Rattle.deck_tellings.proofs.LearnSteps.{lost_none}
use Rattle.wasp_session.proofs.HeadTold.{plan_told}
use Rattle.deck_tellings.proofs.WhereErr.{on_err}
use Rattle.wasp_session.proofs.session.Session.tell_plan.Goals as goal

pub returns-in_err-head-clause-err : goal.returns-in_err-head-clause-err
returns-in_err-head-clause-err g c =
    let s : State = c.args.self.now in
    let d = body_of s.deck in
    on_err c.from_residual.result _ (lost_none {X = g.row.E.Denot} ((task_of s.command).takes d) ((task_of s.command).asks d) d s.memory g.E.SimEngine.work c.args.engines.now)

pub returns-clause-told : goal.returns-clause-told
returns-clause-told g c =
    let s : State = c.args.self.now in
    on_ok_weaker c.tell_deck.result
    (λ told. plan_told {X = g.row.E.Denot} s.command s.plans s.deck s.memory c.tell_deck.new.self.memory g.E.SimEngine.work c.args.engines.now c.tell_deck.new.engines
    c.args.text.now c.head.new.text c.tell_deck.new.text c.requires.plans c.in_ok-head.ensures.appended told)
    c.tell_deck.ensures.told
