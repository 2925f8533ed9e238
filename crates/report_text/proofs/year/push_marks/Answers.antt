use Rattle.report_text.specs.Marks.{mark_at}
use Rattle.report_text.proofs.TextSteps.{text_step}
use Rattle.report_text.proofs.year.push_marks.Goals as goal

pub loop-k-preserved : goal.loop-k-preserved
loop-k-preserved c = text_step (mark_at c.args.greatest.now c.args.tunnel.now c.args.config.now) _ _ _ _ c.loop-k.invariant c.in_ok-push_mark.ensures
