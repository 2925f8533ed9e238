use Rattle.std.proofs.Common.{◌∙◌, refl, sym, subst, IsTrue}
use Rattle.deck_lines.specs.Deck.{body_of}
use Rattle.deck_lines.specs.declared.line.Line.TheVariants as lines
use Rattle.deck_tellings.specs.Checks.{IsChecked}
use Rattle.deck_tellings.specs.Checks.{DemandsChecked}
use Rattle.wasp_session.specs.State.{State}
use Rattle.deck_tellings.proofs.LearnSteps.{lost_of}
use Rattle.wasp_session.proofs.LineSteps.{none_at, verdict_at}
use Rattle.wasp_session.proofs.Wanting.{wanting_at, wanting_at_end}
use Rattle.deck_tellings.proofs.WhereErr.{on_err}
use Rattle.wasp_session.proofs.session.Session.check.Goals as goal

pub returns-then-self-clause-err : goal.returns-then-self-clause-err
returns-then-self-clause-err g c =
    wanting_at {X = g.row.E.Denot} lines.EndCheck c.args.self.now c.args.self.now g.E.SimEngine.work c.args.engines.now refl refl refl
    (subst (λ (s : State). IsTrue s.refused) c.self.view_is c.if-self.true)

pub returns-in_default-clause-does : goal.returns-in_default-clause-does
returns-in_default-clause-does g c =
    none_at {X = g.row.E.Denot} c.args.self.now _ c.take.new.self g.E.SimEngine.work c.args.engines.now c.args.text.now c.self.view_is (sym c.take.ensures.value ∙ c.in_default.is) c.take.ensures.after

pub returns-in_err-judged-clause-err : goal.returns-in_err-judged-clause-err
returns-in_err-judged-clause-err g c =
    on_err _ _
    (wanting_at_end {X = g.row.E.Denot} c.args.self.now _ c.in-Some.opened c.take.new.self c.judge_deck-answer.new.memory g.E.SimEngine.work c.args.engines.now c.judge_deck-answer.new.engines c.self.view_is
    (sym c.take.ensures.value ∙ c.in-Some.is) c.in_err-judged.ensures.err)

pub returns-in_err-write_verdict-clause-err : goal.returns-in_err-write_verdict-clause-err
returns-in_err-write_verdict-clause-err g c =
    let d = body_of c.self.inside.deck in
    let o = c.in-Some.opened in
    on_err _ _
    (wanting_at_end {X = g.row.E.Denot} c.args.self.now _ o c.take.new.self c.judge_deck-answer.new.memory g.E.SimEngine.work c.args.engines.now c.judge_deck-answer.new.engines c.self.view_is
    (sym c.take.ensures.value ∙ c.in-Some.is)
    (lost_of {X = g.row.E.Denot} (IsChecked d o) (DemandsChecked d o) d c.self.inside.memory c.judge_deck-answer.new.memory g.E.SimEngine.work c.args.engines.now c.judge_deck-answer.new.engines 0 c.in_ok-judged.ensures.learns))

pub returns-clause-does : goal.returns-clause-does
returns-clause-does g c =
    verdict_at {X = g.row.E.Denot} c.args.self.now _ c.in-Some.opened c.take.new.self c.in_ok-judged.judged c.case.result c.count_no.result c.judge_deck-answer.new.memory
    g.E.SimEngine.work c.args.engines.now c.judge_deck-answer.new.engines c.args.text.now c.write_verdict.new.text c.self.view_is (sym c.take.ensures.value ∙ c.in-Some.is) c.take.ensures.after
    c.if-self.false c.case.ensures.value c.count_no.ensures.count c.in_ok-judged.ensures.judged c.in_ok-judged.ensures.learns c.in_ok-write_verdict.ensures.appended
