use Rattle.std.proofs.Common.{◌≡◌, ◌*◌, ◌≤◌, length, take, drop}
use Rattle.loading_order.proofs.BlockLists.{blocks_below}
use Rattle.loading_order.proofs.blocks.write_blocks.Given as goal

abbrev pub invariant-loop-place : goal.invariant-loop-place
invariant-loop-place l =
    (l.end ≤ 2 * l.place) × (l.end ≡ length (blocks_below l.units l.place)) × (take l.end l.room ≡ blocks_below l.units l.place) × (drop l.end l.room ≡ drop l.end l.initial.room)
