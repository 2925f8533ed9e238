use Rattle.std.proofs.Common.{ap}
use Rattle.deck_lines.specs.Deck.{body_of}
use Rattle.plan_program.specs.declared.solved.Solved.{Solved}
use Rattle.deck_tellings.proofs.RoundAnswers.{answer_is}
use Rattle.deck_tellings.proofs.rounds.solve_under.Goals as goal

pub returns-in_ok-solve_table-in-Table-clause-answer : goal.returns-in_ok-solve_table-in-Table-clause-answer
returns-in_ok-solve_table-in-Table-clause-answer g c =
    answer_is (body_of c.args.asked.typed.now) c.args.asked.case c.args.asked.tunnels.now c.in-Table.table c.in_ok-solve_table-in-Table.field-0.table _ _ _ c.in_ok-solve_table-in-Table.ensures.table
    c.answer_of.ensures (ap (λ (s : Solved). s.outcome) c.into_parts-table.ensures.solved) (rw c.in-Table.is at c.in_ok-refusal.ensures.answer) c.in_ok-solve_table-in-Table.ensures.outcome
