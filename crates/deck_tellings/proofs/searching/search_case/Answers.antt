use Rattle.std.proofs.Common.{arith}
use Rattle.deck_lines.specs.Deck.{body_of}
use Rattle.deck_tellings.proofs.SearchSteps.{rounds_lost, rounds_none}
use Rattle.deck_tellings.proofs.WhereErr.{on_err}
use Rattle.deck_tellings.proofs.searching.search_case.Goals as goal

pub returns-in_err-write_case_line-clause-err : goal.returns-in_err-write_case_line-clause-err
returns-in_err-write_case_line-clause-err g c =
    let d = body_of c.args.of.now.typed.now in
    on_err _ _ (rounds_lost {X = g.row.E.Denot} d c.args.of.now.case 0 c.args.memory.now c.args.memory.now g.E.SimEngine.work c.args.engines.now c.args.engines.now (omega arith)
    (rounds_none {X = g.row.E.Denot} d c.args.of.now.case c.args.memory.now g.E.SimEngine.work c.args.engines.now))
