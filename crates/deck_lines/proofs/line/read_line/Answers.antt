use Rattle.deck_lines.specs.Words.{words_of}
use Rattle.deck_lines.proofs.LineForms.{text_gives}
use Rattle.deck_lines.proofs.line.read_line.Goals as goal

pub returns-clause-in_form : goal.returns-clause-in_form
returns-clause-in_form c = text_gives c.args.mode c.without_return.result.now (words_of c.without_return.result.now) _ c.text_line.ensures
