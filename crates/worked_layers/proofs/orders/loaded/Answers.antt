use Rattle.std.proofs.Common.{[], ◌∷◌}
use Rattle.loading_order.specs.LoadingOrder.{IsPriced}
use Rattle.loading_order.proofs.InOrder.{all_to_places}
use Rattle.worked_layers.proofs.orders.loaded.Goals as goal

pub order-end-requires-clause-priced : goal.order-end-requires-clause-priced
order-end-requires-clause-priced c = all_to_places IsPriced (c.args.first ∷ c.args.second ∷ c.args.third ∷ []) (c.requires.first, (c.requires.second, (c.requires.third, tt)))
