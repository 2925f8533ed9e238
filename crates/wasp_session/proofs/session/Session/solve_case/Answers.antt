use Rattle.std.proofs.Common.{refl, subst, IsTrue}
use Rattle.deck_lines.specs.Deck.{body_of}
use Rattle.deck_tellings.specs.Solving.{DemandsCase, IsCaseWithin}
use Rattle.wasp_session.specs.State.{State}
use Rattle.wasp_session.proofs.SolvedIn.{learns_in, wanting_in, within_in}
use Rattle.wasp_session.proofs.Wanting.{wanting}
use Rattle.deck_tellings.proofs.WhereErr.{on_err}
use Rattle.wasp_session.proofs.session.Session.solve_case.Goals as goal

pub returns-then-self-clause-err : goal.returns-then-self-clause-err
returns-then-self-clause-err g c =
    let d = body_of c.args.self.now.deck in
    wanting {X = g.row.E.Denot} (IsCaseWithin d c.args.case) (DemandsCase d c.args.case) c.args.self.now c.args.self.now g.E.SimEngine.work c.args.engines.now refl refl refl
    (subst (λ (s : State). IsTrue s.refused) c.self.view_is c.if-self.true)

pub returns-in_err-done-clause-err : goal.returns-in_err-done-clause-err
returns-in_err-done-clause-err g c =
    on_err _ _ (wanting_in {X = g.row.E.Denot} c.args.case c.args.self.now _ c.solve_deck-solved.new.memory g.E.SimEngine.work c.args.engines.now c.solve_deck-solved.new.engines c.self.view_is c.in_err-done.ensures.err)

pub returns-clause-learns : goal.returns-clause-learns
returns-clause-learns g c =
    learns_in {X = g.row.E.Denot} c.args.case c.args.self.now _ c.solve_deck-solved.new.memory g.E.SimEngine.work c.args.engines.now c.solve_deck-solved.new.engines c.self.view_is c.in_ok-done.ensures.learns

pub returns-clause-within : goal.returns-clause-within
returns-clause-within g c = within_in c.args.case c.args.self.now _ c.self.view_is c.in_ok-done.ensures.within
