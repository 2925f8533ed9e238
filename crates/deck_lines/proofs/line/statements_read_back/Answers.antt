use Rattle.deck_lines.proofs.ReadLine.{reads_back}
use Rattle.deck_lines.proofs.line.statements_read_back.Goals as goal

pub returns : goal.returns
returns c = reads_back
