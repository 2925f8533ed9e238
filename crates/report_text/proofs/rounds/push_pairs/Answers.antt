use Rattle.report_text.specs.Rounds.{pair_words}
use Rattle.report_text.proofs.TextSteps.{text_step}
use Rattle.report_text.proofs.rounds.push_pairs.Goals as goal

pub loop-k-preserved : goal.loop-k-preserved
loop-k-preserved c = text_step (pair_words c.args.tunnel.now) _ _ _ _ c.loop-k.invariant c.in_ok-push_pair.ensures
