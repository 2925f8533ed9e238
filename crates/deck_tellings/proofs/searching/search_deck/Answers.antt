use Rattle.std.proofs.Common.{◌∙◌, ap, ◌++◌, Err}
use Rattle.std.proofs.lemmas.Result.{on_ok_weaker}
use Rattle.deck_check.specs.DeckFault.{HasNoFault}
use Rattle.deck_check.specs.declared.fault.DeckFault.{DeckFault}
use Rattle.deck_lines.specs.Deck.{body_of}
use Rattle.report_text.specs.Refusals.{refusal_line}
use Rattle.report_text.specs.declared.refusals.Refusal.TheVariants.{Deck}
use Rattle.deck_tellings.specs.Rounds.{SearchDemands}
use Rattle.deck_tellings.proofs.LearnSteps.{lost_none}
use Rattle.deck_tellings.proofs.PlanTold.{goes_either}
use Rattle.deck_tellings.proofs.SearchSteps.{deck_lost_as, deck_told_as, fault_told}
use Rattle.deck_tellings.proofs.WhereErr.{on_err}
use Rattle.deck_tellings.proofs.searching.search_deck.Goals as goal

pub returns-in-Ok-clause-told : goal.returns-in-Ok-clause-told
returns-in-Ok-clause-told g c =
    deck_told_as {X = g.row.E.Denot} _ _ c.search_typed.result c.args.memory.now c.search_typed.new.memory g.E.SimEngine.work c.args.engines.now c.search_typed.new.engines c.args.text.now c.search_typed.new.text c.in-Ok.ensures.typed c.search_typed.ensures.told

pub returns-in-Ok-clause-err : goal.returns-in-Ok-clause-err
returns-in-Ok-clause-err g c =
    deck_lost_as {X = g.row.E.Denot} _ _ c.search_typed.result c.args.memory.now c.search_typed.new.memory g.E.SimEngine.work c.args.engines.now c.search_typed.new.engines c.in-Ok.ensures.typed c.search_typed.ensures.err

pub returns-in-Err-OutOfMemory-clause-err : goal.returns-in-Err-OutOfMemory-clause-err
returns-in-Err-OutOfMemory-clause-err g c =
    let d = body_of c.args.deck.now in
    lost_none {X = g.row.E.Denot} (HasNoFault d) (SearchDemands d) d c.args.memory.now g.E.SimEngine.work c.args.engines.now

pub returns-in-Err-Fault-clause-told : goal.returns-in-Err-Fault-clause-told
returns-in-Err-Fault-clause-told g c =
    let d = body_of c.args.deck.now in
    let fault = c.in-Err-Fault.fault in
    let is = c.in-Err-Fault.ensures.fault fault (ap (λ z. Err z) c.in-Err-Fault.field-0-is) in
    on_ok_weaker c.write_refusal.result
    (λ text. fault_told {X = g.row.E.Denot} d fault c.args.memory.now g.E.SimEngine.work c.args.engines.now c.args.text.now c.write_refusal.new.text is (λ none. c.faults_are_met.ensures d fault is none)
    (text ∙ ap (λ (z : DeckFault). c.args.text.now.items ++ refusal_line (Deck z)) c.in-Err-Fault.fault-is))
    c.write_refusal.ensures.appended

pub returns-in-Err-Fault-clause-err : goal.returns-in-Err-Fault-clause-err
returns-in-Err-Fault-clause-err g c =
    let d = body_of c.args.deck.now in
    on_err c.write_refusal.result _ (lost_none {X = g.row.E.Denot} (HasNoFault d) (SearchDemands d) d c.args.memory.now g.E.SimEngine.work c.args.engines.now)

pub returns-in-Err-Fault-clause-goes_on : goal.returns-in-Err-Fault-clause-goes_on
returns-in-Err-Fault-clause-goes_on g c = goes_either c.write_refusal.result c.args.text.now c.write_refusal.new.text _ c.write_refusal.ensures.appended c.write_refusal.ensures.kept
