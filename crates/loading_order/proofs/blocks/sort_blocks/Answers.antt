use Rattle.std.proofs.Common.{rules}
use Rattle.std.proofs.lemmas.Fn.{always_returns_same}
use Rattle.loading_order.specs.LoadingOrder.{key}
use Rattle.loading_order.proofs.blocks.sort_blocks.Goals as goal

pub returns-clause-sorted : goal.returns-clause-sorted
returns-clause-sorted c = c.sort_unstable_by_key.ensures.sorted (key c.args.rule c.args.units.now) (always_returns_same _ _ _ (λ a r g h. search rules))
