use Rattle.std.proofs.Common.{◌∙◌, ap, ◌++◌, Err}
use Rattle.std.proofs.lemmas.Result.{on_ok_weaker}
use Rattle.deck_check.specs.declared.fault.DeckFault.{DeckFault}
use Rattle.deck_lines.specs.Deck.{body_of}
use Rattle.report_text.specs.Refusals.{refusal_line}
use Rattle.report_text.specs.declared.refusals.Refusal.TheVariants.{Deck}
use Rattle.case_study.specs.Keys.{Demands}
use Rattle.case_study.specs.Listings.{IsTaken}
use Rattle.deck_tellings.proofs.LearnSteps.{lost_none}
use Rattle.deck_tellings.proofs.OverSteps.{fault_not_taken}
use Rattle.deck_tellings.proofs.PlanTold.{goes_either, refusal_told}
use Rattle.deck_tellings.proofs.WhereErr.{on_err}
use Rattle.deck_tellings.proofs.plan.plan_deck.Goals as goal

pub returns-in-Err-OutOfMemory-clause-err : goal.returns-in-Err-OutOfMemory-clause-err
returns-in-Err-OutOfMemory-clause-err g c =
    let d = body_of c.args.deck.now in
    lost_none {X = g.row.E.Denot} (IsTaken d) (Demands d) d c.args.memory.now g.E.SimEngine.work c.args.engines.now

pub returns-in-Err-Fault-clause-told : goal.returns-in-Err-Fault-clause-told
returns-in-Err-Fault-clause-told g c =
    let d = body_of c.args.deck.now in
    let fault = c.in-Err-Fault.fault in
    let is = c.in-Err-Fault.ensures.fault fault (ap (λ z. Err z) c.in-Err-Fault.field-0-is) in
    on_ok_weaker c.write_refusal.result
    (λ text. refusal_told {X = g.row.E.Denot} d (Deck fault) c.args.memory.now g.E.SimEngine.work c.args.engines.now c.args.text.now c.write_refusal.new.text is (fault_not_taken c.faults_are_met.ensures d fault is)
    (text ∙ ap (λ (z : DeckFault). c.args.text.now.items ++ refusal_line (Deck z)) c.in-Err-Fault.fault-is))
    c.write_refusal.ensures.appended

pub returns-in-Err-Fault-clause-err : goal.returns-in-Err-Fault-clause-err
returns-in-Err-Fault-clause-err g c =
    let d = body_of c.args.deck.now in
    on_err c.write_refusal.result _ (lost_none {X = g.row.E.Denot} (IsTaken d) (Demands d) d c.args.memory.now g.E.SimEngine.work c.args.engines.now)

pub returns-in-Err-Fault-clause-goes_on : goal.returns-in-Err-Fault-clause-goes_on
returns-in-Err-Fault-clause-goes_on g c = goes_either c.write_refusal.result c.args.text.now c.write_refusal.new.text _ c.write_refusal.ensures.appended c.write_refusal.ensures.kept
