-- The loading order is the one sorted permutation.
use Rattle.std.specs.Cmp.Lexicographic.{nat_list_cmp_total}
use Rattle.std.proofs.lemmas.List.Sorted.{ranks_by, All-permutation}
use Rattle.loading_order.specs.LoadingOrder.{key, blocks_of, precedes, OnlyOrder}
use Rattle.loading_order.proofs.InOrder.{in_order_is, all_from_places, all_to_places}
use Rattle.loading_order.proofs.SameBlock.{all_blocks_of, same_block, IsBlockOf}

pub only_order : OnlyOrder
only_order = λ rule units blocks distinct same up.
    in_order_is (precedes rule units) (ranks_by nat_list_cmp_total (key rule units)) (IsBlockOf units) (same_block rule units distinct) (blocks_of units) blocks
    (all_blocks_of units) same
    (all_from_places (IsBlockOf units) blocks (All-permutation (IsBlockOf units) (blocks_of units) blocks same (all_to_places (IsBlockOf units) (blocks_of units) (all_blocks_of units))))
    up
