use Rattle.std.proofs.Common.{subst, Ok}
use Rattle.deck_lines.specs.declared.line.Mode.{Mode}
use Rattle.wasp_session.specs.Modes.{IsOfMode}
use Rattle.wasp_session.proofs.ModeLines.{of_mode}
use Rattle.wasp4.proofs.turn.state.Goals as goal

pub returns-clause-of_mode : goal.returns-clause-of_mode
returns-clause-of_mode c =
    subst (λ (m : Mode). IsOfMode m c.in_ok-line.line) c.mode.ensures (of_mode c.mode.result c.args.bytes.now (Ok c.in_ok-line.line) c.in_ok-line.ensures.exact)
