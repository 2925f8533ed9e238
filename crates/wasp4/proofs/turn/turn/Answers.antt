use Rattle.std.proofs.Common.{◌<◌, [], length, arith}
use Rattle.deck_lines.specs.LineFault.{fault}
use Rattle.deck_lines.specs.declared.fault.LineKind.TheVariants as kinds
use Rattle.wasp4.proofs.Refusing.{at_end, consumes_last, last_goes, line_part, line_turn, not_full, over_turn, refused}
use Rattle.wasp4.proofs.Scripts.{long_here}
use Rattle.wasp4.proofs.turn.turn.Goals as goal

pub returns-in_ok-answer-in-Line-clause-turn : goal.returns-in_ok-answer-in-Line-clause-turn
returns-in_ok-answer-in-Line-clause-turn g c = λ command read said start number run.
    let found = rw c.in-Line.is at c.in_ok-next_line.ensures.line in
    let few : length read < 100000 = omega (arith, number, c.requires.last) in
    line_turn command _ _ read _ _ said _ start _ _ found.1 found.2 few found.0 (rw c.deref.ensures.value at c.in_ok-answer-in-Line.ensures.answer command read said start number run)

pub returns-in_ok-refuse_end-in-Goes-clause-turn : goal.returns-in_ok-refuse_end-in-Goes-clause-turn
returns-in_ok-refuse_end-in-Goes-clause-turn g c = λ command read said start number run.
    let found = rw c.in-Last.is at c.in_ok-next_line.ensures.line in
    let few : length read < 100000 = omega (arith, number, c.requires.last) in
    let answered = rw (c.in-Goes.is, c.deref-in-Last.ensures.value) at c.in_ok-answer-in-Last.ensures.answer command read said start number run in
    last_goes command _ _ read _ c.answer-in-Last.new.session said c.answer-in-Last.new.text.items _ start _ _ number found.0 found.1 found.3 few found.4 answered c.in_ok-refuse_end-in-Goes.ensures

pub returns-in-Over-clause-turn : goal.returns-in-Over-clause-turn
returns-in-Over-clause-turn g c = λ command read said start number run.
    let found = rw c.in-Last.is at c.in_ok-next_line.ensures.line in
    let few : length read < 100000 = omega (arith, number, c.requires.last) in
    let answered = rw (c.in-Over.is, c.deref-in-Last.ensures.value) at c.in_ok-answer-in-Last.ensures.answer command read said start number run in
    over_turn command _ _ read _ _ start _ _ found.0 found.1 found.3 few found.4 answered

pub returns-in_ok-refuse-in-Long-clause-turn : goal.returns-in_ok-refuse-in-Long-clause-turn
returns-in_ok-refuse-in-Long-clause-turn g c = λ command read said start number run.
    let found = rw c.in-Long.is at c.in_ok-next_line.ensures.line in
    let few : length read < 100000 = omega (arith, number, c.requires.last) in
    let long = found.2 in
    refused command _ _ read c.args.session.now said c.args.text.now.items c.refuse.new.text.items _ start _ c.args.number (fault kinds.Long 4097) run number c.requires.clear c.in_ok-refuse-in-Long.ensures
    (long_here command read c.args.session.now said start _ _ _ few run (omega (arith, long)) found.3) (line_part _ found.1 (omega (arith, long))) found.0 (not_full (length read) few)

pub returns-in_ok-refuse_end-in-End-clause-turn : goal.returns-in_ok-refuse_end-in-End-clause-turn
returns-in_ok-refuse_end-in-End-clause-turn g c = λ command read said start number run.
    let found = rw c.in-End.is at c.in_ok-next_line.ensures.line in
    let few : length read < 100000 = omega (arith, number, c.requires.last) in
    refused command _ _ read c.args.session.now said c.args.text.now.items _ [] start _ c.args.number (fault kinds.NoEnd 1) run number c.requires.clear c.in_ok-refuse_end-in-End.ensures (at_end command _ read found.1)
    (line_part [] tt (omega arith)) (consumes_last _ _ [] found.0) (not_full (length read) few)
