use Rattle.deck_lines.proofs.LineForms.{form_counts}
use Rattle.deck_lines.proofs.behind.chosen_line.Goals as goal

pub config_of-requires : goal.config_of-requires
config_of-requires c = rw c.deref.ensures.value (form_counts c.repeated.result _ _ _ _ c.repeated.ensures c.new-read.ensures.items c.in_ok-groups.ensures)
