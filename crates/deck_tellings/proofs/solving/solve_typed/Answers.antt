use Rattle.deck_lines.specs.Deck.{body_of}
use Rattle.deck_tellings.proofs.SolveSteps.{lost_behind, never_over, on_ok, solved_table, solved_within}
use Rattle.deck_tellings.proofs.solving.solve_typed.Goals as goal

pub unreachable-requires : goal.unreachable-requires
unreachable-requires g c =
    never_over (body_of c.args.typed.now) c.args.case c.in_ok-table.field-0 c.in-Over.field-0 c.requires.solvable c.in-Over.is c.in_ok-table.ensures.answer

pub returns-clause-table : goal.returns-clause-table
returns-clause-table g c =
    solved_table (body_of c.args.typed.now) c.args.case c.in_ok-table.field-0 c.in-Table.table c.solve_table.result c.in-Table.is c.in_ok-table.ensures.answer c.solve_table.ensures.table

pub returns-clause-within : goal.returns-clause-within
returns-clause-within g c =
    solved_within (body_of c.args.typed.now) c.args.case c.in_ok-table.field-0 c.in-Table.table c.solve_table.result c.in-Table.is c.in_ok-table.ensures.answer

pub returns-clause-learns : goal.returns-clause-learns
returns-clause-learns g c = on_ok c.solve_table.result _ c.in_ok-table.ensures.learns

pub returns-clause-err : goal.returns-clause-err
returns-clause-err g c =
    lost_behind {X = g.row.E.Denot} (body_of c.args.typed.now) c.args.case c.solve_table.result c.args.memory.now c.answer_case.new.memory g.E.SimEngine.work c.args.engines.now c.answer_case.new.engines c.in_ok-table.ensures.learns
