use Rattle.std.proofs.Common.{sym, subst}
use Rattle.std.specs.Prelude.{OnErr, OnOk}
use Rattle.wasp_session.specs.Inner.{IsLostOn, TellsDeck}
use Rattle.wasp_session.specs.State.{State}
use Rattle.wasp_session.specs.declared.command.Command.{Command}
use Rattle.wasp_session.proofs.session.Session.tell_deck.Goals as goal

pub returns-in-Plan-clause-told : goal.returns-in-Plan-clause-told
returns-in-Plan-clause-told g c =
    let i = c.self.inside in
    subst (λ (s : State). OnOk c.plan_deck-told.result (TellsDeck {X = g.row.E.Denot} s.command s.deck s.memory c.plan_deck-told.new.memory g.E.SimEngine.work c.args.engines.now c.plan_deck-told.new.engines c.args.text.now c.plan_deck-told.new.text)) c.self.view_is
    (subst (λ (k : Command). OnOk c.plan_deck-told.result (TellsDeck {X = g.row.E.Denot} k i.deck i.memory c.plan_deck-told.new.memory g.E.SimEngine.work c.args.engines.now c.plan_deck-told.new.engines c.args.text.now c.plan_deck-told.new.text)) (sym c.in-Plan.is) c.plan_deck-told.ensures.told)

pub returns-in-Plan-clause-err : goal.returns-in-Plan-clause-err
returns-in-Plan-clause-err g c =
    let i = c.self.inside in
    subst (λ (s : State). OnErr c.plan_deck-told.result (IsLostOn {X = g.row.E.Denot} s.command s.deck s.memory c.plan_deck-told.new.memory g.E.SimEngine.work c.args.engines.now c.plan_deck-told.new.engines)) c.self.view_is
    (subst (λ (k : Command). OnErr c.plan_deck-told.result (IsLostOn {X = g.row.E.Denot} k i.deck i.memory c.plan_deck-told.new.memory g.E.SimEngine.work c.args.engines.now c.plan_deck-told.new.engines)) (sym c.in-Plan.is) c.plan_deck-told.ensures.err)

pub returns-in-Search-clause-told : goal.returns-in-Search-clause-told
returns-in-Search-clause-told g c =
    let i = c.self.inside in
    subst (λ (s : State). OnOk c.search_deck-told.result (TellsDeck {X = g.row.E.Denot} s.command s.deck s.memory c.search_deck-told.new.memory g.E.SimEngine.work c.args.engines.now c.search_deck-told.new.engines c.args.text.now c.search_deck-told.new.text)) c.self.view_is
    (subst (λ (k : Command). OnOk c.search_deck-told.result (TellsDeck {X = g.row.E.Denot} k i.deck i.memory c.search_deck-told.new.memory g.E.SimEngine.work c.args.engines.now c.search_deck-told.new.engines c.args.text.now c.search_deck-told.new.text)) (sym c.in-Search.is) c.search_deck-told.ensures.told)

pub returns-in-Search-clause-err : goal.returns-in-Search-clause-err
returns-in-Search-clause-err g c =
    let i = c.self.inside in
    subst (λ (s : State). OnErr c.search_deck-told.result (IsLostOn {X = g.row.E.Denot} s.command s.deck s.memory c.search_deck-told.new.memory g.E.SimEngine.work c.args.engines.now c.search_deck-told.new.engines)) c.self.view_is
    (subst (λ (k : Command). OnErr c.search_deck-told.result (IsLostOn {X = g.row.E.Denot} k i.deck i.memory c.search_deck-told.new.memory g.E.SimEngine.work c.args.engines.now c.search_deck-told.new.engines)) (sym c.in-Search.is) c.search_deck-told.ensures.err)

pub returns-in-Best-clause-told : goal.returns-in-Best-clause-told
returns-in-Best-clause-told g c =
    let i = c.self.inside in
    subst (λ (s : State). OnOk c.rank_deck-told.result (TellsDeck {X = g.row.E.Denot} s.command s.deck s.memory c.rank_deck-told.new.memory g.E.SimEngine.work c.args.engines.now c.rank_deck-told.new.engines c.args.text.now c.rank_deck-told.new.text)) c.self.view_is
    (subst (λ (k : Command). OnOk c.rank_deck-told.result (TellsDeck {X = g.row.E.Denot} k i.deck i.memory c.rank_deck-told.new.memory g.E.SimEngine.work c.args.engines.now c.rank_deck-told.new.engines c.args.text.now c.rank_deck-told.new.text)) (sym c.in-Best.is) c.rank_deck-told.ensures.told)

pub returns-in-Best-clause-err : goal.returns-in-Best-clause-err
returns-in-Best-clause-err g c =
    let i = c.self.inside in
    subst (λ (s : State). OnErr c.rank_deck-told.result (IsLostOn {X = g.row.E.Denot} s.command s.deck s.memory c.rank_deck-told.new.memory g.E.SimEngine.work c.args.engines.now c.rank_deck-told.new.engines)) c.self.view_is
    (subst (λ (k : Command). OnErr c.rank_deck-told.result (IsLostOn {X = g.row.E.Denot} k i.deck i.memory c.rank_deck-told.new.memory g.E.SimEngine.work c.args.engines.now c.rank_deck-told.new.engines)) (sym c.in-Best.is) c.rank_deck-told.ensures.err)
