use Rattle.std.proofs.Common.{arith}
use Rattle.wasp4.proofs.HourSteps.{at_end, last_goes, line_turned, long_here}
use Rattle.wasp4.proofs.hours.turn.Goals as goal

pub returns-in-Line-clause-turn : goal.returns-in-Line-clause-turn
returns-in-Line-clause-turn g c =
    let found = rw c.in-Line.is at c.in_ok-next_line.ensures.line in
    line_turned c.args.before _ _ _ c.args.loads.now.items _ _ found.0 found.1 (rw c.deref.ensures.value at c.take_line.ensures.turn)

pub returns-in-Goes-clause-turn : goal.returns-in-Goes-clause-turn
returns-in-Goes-clause-turn g c =
    let found = rw c.in-Last.is at c.in_ok-next_line.ensures.line in
    let leads = rw (c.in-Goes.is, c.deref-in-Last.ensures.value) at c.in_ok-take_line-in-Last.ensures.turn in
    rw c.at_first_column.ensures (last_goes c.args.before _ _ _ c.args.loads.now.items _ (omega arith) found.4 leads)

pub returns-in-Long-clause-turn : goal.returns-in-Long-clause-turn
returns-in-Long-clause-turn g c =
    let found = rw c.in-Long.is at c.in_ok-next_line.ensures.line in
    let long = found.2 in
    long_here c.args.before c.args.loads.now.items _ _ c.requires.last (omega (arith, long)) found.3

pub returns-in-End-clause-turn : goal.returns-in-End-clause-turn
returns-in-End-clause-turn g c =
    let found = rw c.in-End.is at c.in_ok-next_line.ensures.line in
    rw c.at_first_column-in-End.ensures (at_end c.args.before c.args.loads.now.items _ found.1)
