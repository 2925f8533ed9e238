use Rattle.std.proofs.Common.{◌∙◌, ap, subst, ◌++◌, List, Err}
use Rattle.std.specs.Prelude.{OnErr, OnOk}
use Rattle.std.proofs.lemmas.Result.{on_ok_weaker}
use Rattle.deck_check.specs.DeckFault.{HasNoFault}
use Rattle.deck_check.specs.declared.fault.DeckFault.{DeckFault}
use Rattle.deck_lines.specs.Deck.{body_of}
use Rattle.deck_lines.specs.declared.statement.Statement.{Statement}
use Rattle.report_text.specs.Refusals.{refusal_line}
use Rattle.report_text.specs.declared.refusals.Refusal.TheVariants.{Deck}
use Rattle.deck_tellings.specs.Ranks.{BestDemands, IsDeckRanked}
use Rattle.deck_tellings.specs.Learning.{IsLost, Tells}
use Rattle.deck_tellings.proofs.LearnSteps.{lost_none}
use Rattle.deck_tellings.proofs.PlanTold.{goes_either}
use Rattle.deck_tellings.proofs.RankSteps.{fault_told}
use Rattle.deck_tellings.proofs.WhereErr.{on_err}
use Rattle.deck_tellings.proofs.best.rank_deck.Goals as goal

pub returns-in-Err-OutOfMemory-clause-err : goal.returns-in-Err-OutOfMemory-clause-err
returns-in-Err-OutOfMemory-clause-err g c =
    let d = body_of c.args.asked.deck.now in
    lost_none {X = g.row.E.Denot} (HasNoFault d) (BestDemands d) d c.args.memory.now g.E.SimEngine.work c.args.engines.now

pub returns-in-Err-Fault-clause-told : goal.returns-in-Err-Fault-clause-told
returns-in-Err-Fault-clause-told g c =
    let d = body_of c.args.asked.deck.now in
    let fault = c.in-Err-Fault.fault in
    let is = c.in-Err-Fault.ensures.fault fault (ap (λ z. Err z) c.in-Err-Fault.field-0-is) in
    on_ok_weaker c.write_refusal.result
    (λ text. fault_told {X = g.row.E.Denot} d c.args.asked.plans fault c.args.memory.now g.E.SimEngine.work c.args.engines.now c.args.text.now c.write_refusal.new.text c.faults_are_met.ensures is
    (text ∙ ap (λ (z : DeckFault). c.args.text.now.items ++ refusal_line (Deck z)) c.in-Err-Fault.fault-is))
    c.write_refusal.ensures.appended

pub returns-in-Err-Fault-clause-err : goal.returns-in-Err-Fault-clause-err
returns-in-Err-Fault-clause-err g c =
    let d = body_of c.args.asked.deck.now in
    on_err c.write_refusal.result _ (lost_none {X = g.row.E.Denot} (HasNoFault d) (BestDemands d) d c.args.memory.now g.E.SimEngine.work c.args.engines.now)

pub returns-in-Err-Fault-clause-goes_on : goal.returns-in-Err-Fault-clause-goes_on
returns-in-Err-Fault-clause-goes_on g c = goes_either c.write_refusal.result c.args.text.now c.write_refusal.new.text _ c.write_refusal.ensures.appended c.write_refusal.ensures.kept

pub returns-in-Ok-clause-told : goal.returns-in-Ok-clause-told
returns-in-Ok-clause-told g c =
    subst
    (λ (x : List Statement). OnOk c.rank_typed.result (Tells {X = g.row.E.Denot} (IsDeckRanked c.args.asked.plans (body_of x)) (HasNoFault (body_of x)) (BestDemands (body_of x)) (body_of x)
    c.args.memory.now c.rank_typed.new.memory g.E.SimEngine.work c.args.engines.now c.rank_typed.new.engines c.args.text.now c.rank_typed.new.text 0))
    (c.in-Ok.typed-is ∙ c.in-Ok.ensures.typed) c.rank_typed.ensures.told

pub returns-in-Ok-clause-err : goal.returns-in-Ok-clause-err
returns-in-Ok-clause-err g c =
    subst
    (λ (x : List Statement). OnErr c.rank_typed.result (IsLost {X = g.row.E.Denot} (HasNoFault (body_of x)) (BestDemands (body_of x)) (body_of x)
    c.args.memory.now c.rank_typed.new.memory g.E.SimEngine.work c.args.engines.now c.rank_typed.new.engines))
    (c.in-Ok.typed-is ∙ c.in-Ok.ensures.typed) c.rank_typed.ensures.err
