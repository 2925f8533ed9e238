use Rattle.std.proofs.Common.{◌∙◌, sym}
use Rattle.deck_lines.proofs.Bytewise.{word_step}
use Rattle.hourly_load.proofs.scan.next_word.Goals as goal

pub returns : goal.returns
returns c = (c.end_of_word-end.ensures.longer, c.end_of_word-end.ensures.within, sym c.skip-start.ensures.same ∙ word_step c.args.line.now c.skip-start.result c.end_of_word-end.result c.end_of_word-end.ensures.longer c.end_of_word-end.ensures.within c.end_of_word-end.ensures.word c.end_of_word-end.ensures.stops)
