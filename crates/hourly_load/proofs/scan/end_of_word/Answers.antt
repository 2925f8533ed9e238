use Rattle.std.proofs.Common.{arith, rules}
use Rattle.deck_lines.proofs.Bytewise.{word_more}
use Rattle.hourly_load.proofs.scan.end_of_word.Goals as goal

pub loop-i-preserved : goal.loop-i-preserved
loop-i-preserved c = record {
  within = omega arith;
  from = omega arith;
  word = word_more c.args.line.now c.args.start c.loop-i.i c.loop-i.invariant.from (omega arith) c.loop-i.invariant.word (search rules);
}
