use Rattle.std.proofs.Common.{refl}
use Rattle.wasp4.proofs.HourSteps.{over, past_byte, past_end, past_fault, stopped}
use Rattle.wasp4.proofs.hours.past_lines.Goals as goal

pub returns-in-Byte-clause-hours : goal.returns-in-Byte-clause-hours
returns-in-Byte-clause-hours g c = λ before loads so_far. rw c.at_first_column.ensures (over 100000 before _ loads _ so_far (past_byte _ _ _ loads c.in-Byte.ensures.bytes))

pub returns-in-End-clause-hours : goal.returns-in-End-clause-hours
returns-in-End-clause-hours g c = λ before loads so_far. rw c.at_first_column-in-End.ensures (over 100000 before _ loads _ so_far (past_end _ loads c.in-End.ensures.bytes.0))

pub returns-in-Failed-clause-hours : goal.returns-in-Failed-clause-hours
returns-in-Failed-clause-hours g c = λ before loads so_far. stopped 100000 before _ _ _ loads so_far (past_fault _ _ c.in-Failed.ensures.bytes) (c.in-Failed.ensures.nothing_kept refl)
