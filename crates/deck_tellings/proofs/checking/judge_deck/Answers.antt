use Rattle.std.proofs.Common.{ap, Err}
use Rattle.deck_lines.specs.Deck.{body_of}
use Rattle.deck_tellings.specs.Checks.{IsChecked}
use Rattle.deck_tellings.specs.Checks.{DemandsChecked}
use Rattle.deck_tellings.proofs.LearnSteps.{learns_none, lost_none}
use Rattle.deck_tellings.proofs.checking.judge_deck.Goals as goal

pub returns-in-Err-OutOfMemory-clause-err : goal.returns-in-Err-OutOfMemory-clause-err
returns-in-Err-OutOfMemory-clause-err g c =
    let d = body_of c.args.deck.now in
    let o = c.args.opened.now in
    lost_none {X = g.row.E.Denot} (IsChecked d o) (DemandsChecked d o) d c.args.memory.now g.E.SimEngine.work c.args.engines.now

pub returns-in-Err-Fault-clause-learns : goal.returns-in-Err-Fault-clause-learns
returns-in-Err-Fault-clause-learns g c =
    let d = body_of c.args.deck.now in
    let o = c.args.opened.now in
    let fault = c.in-Err-Fault.fault in
    let is = c.in-Err-Fault.ensures.fault fault (ap (λ z. Err z) c.in-Err-Fault.field-0-is) in
    learns_none {X = g.row.E.Denot} (IsChecked d o) (DemandsChecked d o) d c.args.memory.now g.E.SimEngine.work c.args.engines.now
    (λ checked. c.faults_are_met.ensures d fault is checked.faultless) (λ key demanded. c.faults_are_met.ensures d fault is demanded.0.faultless)
