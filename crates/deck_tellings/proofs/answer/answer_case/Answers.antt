use Rattle.std.proofs.Common.{◌∙◌, subst}
use Rattle.std.specs.Prelude.{IfOk, OnErr, OnOk}
use Rattle.deck_lines.specs.Deck.{body_of}
use Rattle.deck_tellings.specs.Inner.{IsAnswerUnder}
use Rattle.case_study.specs.Keys.{DemandsUnder}
use Rattle.case_study.specs.Listings.{AreWithin, Tunnels, deck_tunnels}
use Rattle.deck_tellings.specs.Learning.{IsLost, Learns}
use Rattle.deck_tellings.proofs.LearnSteps.{lost_none}
use Rattle.deck_tellings.proofs.WhereErr.{on_err}
use Rattle.deck_tellings.proofs.answer.answer_case.Goals as goal

pub returns-in_err-tunnels-clause-err : goal.returns-in_err-tunnels-clause-err
returns-in_err-tunnels-clause-err g c =
    let d = body_of c.args.typed.now in
    let k = c.args.case in
    on_err c.from_residual.result _ (lost_none {X = g.row.E.Denot} (AreWithin d k (deck_tunnels d k)) (DemandsUnder d k (deck_tunnels d k)) d c.args.memory.now g.E.SimEngine.work c.args.engines.now)

pub returns-clause-answer : goal.returns-clause-answer
returns-clause-answer g c =
    let d = body_of c.args.typed.now in
    let k = c.args.case in
    subst (λ (t : Tunnels). IfOk c.answer_under.result (λ answer. IsAnswerUnder d k t answer)) (c.deref.ensures.value ∙ c.in_ok-tunnels.ensures.own) c.answer_under.ensures.answer

pub returns-clause-learns : goal.returns-clause-learns
returns-clause-learns g c =
    let d = body_of c.args.typed.now in
    let k = c.args.case in
    subst (λ (t : Tunnels). OnOk c.answer_under.result (Learns {X = g.row.E.Denot} (AreWithin d k t) (DemandsUnder d k t) d c.args.memory.now c.answer_under.new.memory g.E.SimEngine.work c.args.engines.now c.answer_under.new.engines 0))
    (c.deref.ensures.value ∙ c.in_ok-tunnels.ensures.own) c.answer_under.ensures.learns

pub returns-clause-err : goal.returns-clause-err
returns-clause-err g c =
    let d = body_of c.args.typed.now in
    let k = c.args.case in
    subst (λ (t : Tunnels). OnErr c.answer_under.result (IsLost {X = g.row.E.Denot} (AreWithin d k t) (DemandsUnder d k t) d c.args.memory.now c.answer_under.new.memory g.E.SimEngine.work c.args.engines.now c.answer_under.new.engines))
    (c.deref.ensures.value ∙ c.in_ok-tunnels.ensures.own) c.answer_under.ensures.err
