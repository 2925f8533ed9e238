use Rattle.std.proofs.Common.{[], arith}
use Rattle.deck_lines.specs.LineFault.{fault}
use Rattle.deck_lines.specs.declared.fault.LineKind.TheVariants as kinds
use Rattle.wasp4.proofs.Refusing.{at_end, byte_part, consumes_none, line_part, no_byte, one_byte, refused}
use Rattle.wasp4.proofs.turn.past_lines.Goals as goal

pub returns-in_ok-refuse-in-Byte-clause-turn : goal.returns-in_ok-refuse-in-Byte-clause-turn
returns-in_ok-refuse-in-Byte-clause-turn g c = λ command read said start now full run.
    refused command _ _ read c.args.session.now said c.args.text.now.items c.refuse.new.text.items _ start now 100001 (fault kinds.ManyLines 1) run (omega (arith, full)) c.requires.clear c.in_ok-refuse-in-Byte.ensures
    (one_byte command _ _ _ read c.in-Byte.ensures.bytes full) (byte_part _) c.in-Byte.ensures.bytes (λ full. omega arith)

pub returns-in_ok-refuse_end-in-End-clause-turn : goal.returns-in_ok-refuse_end-in-End-clause-turn
returns-in_ok-refuse_end-in-End-clause-turn g c = λ command read said start now full run.
    refused command _ _ read c.args.session.now said c.args.text.now.items c.refuse_end.new.text.items [] start now 100001 (fault kinds.NoEnd 1) run (omega (arith, full)) c.requires.clear c.in_ok-refuse_end-in-End.ensures
    (at_end command _ read (no_byte _ c.in-End.ensures.bytes.0)) (line_part [] tt (omega arith)) (consumes_none _ _ c.in-End.ensures.bytes.1) (λ full. omega arith)
