use Rattle.loading_order.proofs.OrderLaws.{only_order}
use Rattle.loading_order.proofs.blocks.order_is_unique.Goals as goal

pub returns : goal.returns
returns c = only_order
