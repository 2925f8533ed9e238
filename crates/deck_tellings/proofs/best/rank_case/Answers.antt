use Rattle.std.proofs.lemmas.Result.{on_ok_weaker}
use Rattle.deck_lines.specs.Deck.{body_of}
use Rattle.case_study.specs.Keys.{DemandsUnder}
use Rattle.case_study.specs.Listings.{AreWithin, deck_tunnels}
use Rattle.deck_tellings.proofs.LearnSteps.{lost_of}
use Rattle.deck_tellings.proofs.WhereErr.{on_err}
use Rattle.deck_tellings.proofs.best.rank_case.Goals as goal

pub returns-clause-learns : goal.returns-clause-learns
returns-clause-learns g c = on_ok_weaker c.rank_answer.result (λ told. c.in_ok-answer.ensures.learns) c.rank_answer.ensures.told

pub returns-clause-err : goal.returns-clause-err
returns-clause-err g c =
    let d = body_of c.args.asked.now.typed.now in
    let k = c.args.asked.now.case in
    on_err c.rank_answer.result _
    (lost_of {X = g.row.E.Denot} (AreWithin d k (deck_tunnels d k)) (DemandsUnder d k (deck_tunnels d k)) d c.args.memory.now c.answer_case.new.memory g.E.SimEngine.work c.args.engines.now c.answer_case.new.engines 0 c.in_ok-answer.ensures.learns)
