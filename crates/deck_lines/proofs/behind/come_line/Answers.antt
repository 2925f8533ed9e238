use Rattle.deck_lines.proofs.LineForms.{come_counts}
use Rattle.deck_lines.proofs.behind.come_line.Goals as goal

pub config_of-requires : goal.config_of-requires
config_of-requires c = rw c.deref.ensures.value (come_counts _ _ _ (rw c.new-read.ensures.items at c.in_ok-last.ensures))
