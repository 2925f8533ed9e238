use Rattle.std.proofs.Common.{ap, Err}
use Rattle.deck_lines.specs.Deck.{body_of}
use Rattle.deck_tellings.specs.Solving.{DemandsCase, IsCaseWithin}
use Rattle.deck_tellings.proofs.LearnSteps.{lost_none}
use Rattle.deck_tellings.proofs.SolveSteps.{learns_on, lost_on, table_on, within_on}
use Rattle.deck_tellings.proofs.solving.solve_deck.Goals as goal

pub returns-in-Ok-clause-table : goal.returns-in-Ok-clause-table
returns-in-Ok-clause-table g c =
    table_on c.in-Ok.typed c.args.deck.now c.args.case c.solve_typed.result c.in-Ok.ensures.typed c.solve_typed.ensures.table

pub returns-in-Ok-clause-within : goal.returns-in-Ok-clause-within
returns-in-Ok-clause-within g c =
    within_on c.in-Ok.typed c.args.deck.now c.args.case c.solve_typed.result c.in-Ok.ensures.typed c.solve_typed.ensures.within

pub returns-in-Ok-clause-learns : goal.returns-in-Ok-clause-learns
returns-in-Ok-clause-learns g c =
    learns_on {X = g.row.E.Denot} c.in-Ok.typed c.args.deck.now c.args.case c.solve_typed.result c.args.memory.now c.solve_typed.new.memory g.E.SimEngine.work c.args.engines.now c.solve_typed.new.engines c.in-Ok.ensures.typed c.solve_typed.ensures.learns

pub returns-in-Ok-clause-err : goal.returns-in-Ok-clause-err
returns-in-Ok-clause-err g c =
    lost_on {X = g.row.E.Denot} c.in-Ok.typed c.args.deck.now c.args.case c.solve_typed.result c.args.memory.now c.solve_typed.new.memory g.E.SimEngine.work c.args.engines.now c.solve_typed.new.engines c.in-Ok.ensures.typed c.solve_typed.ensures.err

pub returns-in-Err-OutOfMemory-clause-err : goal.returns-in-Err-OutOfMemory-clause-err
returns-in-Err-OutOfMemory-clause-err g c =
    let d = body_of c.args.deck.now in
    lost_none {X = g.row.E.Denot} (IsCaseWithin d c.args.case) (DemandsCase d c.args.case) d c.args.memory.now g.E.SimEngine.work c.args.engines.now

pub unreachable-requires : goal.unreachable-requires
unreachable-requires g c =
    let d = body_of c.args.deck.now in
    let fault = c.in-Err-Fault.field-0-0 in
    c.faults_are_met.ensures d fault (c.in-Err-Fault.ensures.fault fault (ap (λ z. Err z) c.in-Err-Fault.field-0-is)) c.requires.solvable.faultless
