use Rattle.loading_order.proofs.AddUp.{hours_add_up}
use Rattle.loading_order.proofs.maintain.hours_add_up.Goals as goal

pub returns : goal.returns
returns c = hours_add_up
