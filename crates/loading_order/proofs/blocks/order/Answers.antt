use Rattle.std.proofs.Common.{◌≡◌, sym, ◌∙◌, ◌++◌, take, drop, subst}
use Rattle.std.specs.List.{All}
use Rattle.std.specs.List.Sorted.{IsPermutation, IsSortedBy}
use Rattle.std.proofs.lemmas.List.{take_at}
use Rattle.std.proofs.lemmas.List.Sorted.{length_permutation, All-permutation}
use Rattle.loading_order.specs.LoadingOrder.{blocks_of, precedes, BasesFirst, PeaksFollow}
use Rattle.loading_order.proofs.InOrder.{all_to_places}
use Rattle.loading_order.proofs.SameBlock.{all_blocks_of, IsBlockOf}
use Rattle.loading_order.proofs.PeakBlocks.{bases_first, peaks_follow}
use Rattle.loading_order.proofs.OrderLaws.{only_order}
use Rattle.loading_order.proofs.blocks.order.Goals as goal

the_blocks : (c : goal.After-room-2-1) → IsPermutation (blocks_of c.args.units.now) c.sort_blocks.new.blocks
the_blocks c = rw c.write_blocks-end.ensures.value at c.sort_blocks.ensures.permutation

front : (c : goal.After-room-2-1) → take c.write_blocks-end.result (c.sort_blocks.new.blocks ++ drop c.write_blocks-end.result c.write_blocks-end.new.room) ≡ c.sort_blocks.new.blocks
front c = take_at c.sort_blocks.new.blocks _ c.write_blocks-end.result (length_permutation (blocks_of c.args.units.now) c.sort_blocks.new.blocks (the_blocks c) ∙ sym c.write_blocks-end.ensures.end)

are_blocks : (c : goal.After-room-2-1) → All (IsBlockOf c.args.units.now) c.sort_blocks.new.blocks
are_blocks c =
    let units = c.args.units.now in
    All-permutation (IsBlockOf units) (blocks_of units) c.sort_blocks.new.blocks (the_blocks c) (all_to_places (IsBlockOf units) (blocks_of units) (all_blocks_of units))

pub returns-clause-value : goal.returns-clause-value
returns-clause-value c = front c ∙ only_order c.args.rule c.args.units.now c.sort_blocks.new.blocks c.requires.distinct (the_blocks c) c.sort_blocks.ensures.sorted

pub returns-clause-peaks : goal.returns-clause-peaks
returns-clause-peaks c = subst PeaksFollow (sym (front c)) (peaks_follow c.args.rule c.args.units.now c.sort_blocks.new.blocks (are_blocks c) c.sort_blocks.ensures.sorted)

pub returns-clause-places : goal.returns-clause-places
returns-clause-places c = rw (front c) (λ k d h. (are_blocks c k d h).within)

pub returns-clause-bases : goal.returns-clause-bases
returns-clause-bases c = λ e.
    let up = subst (λ r. IsSortedBy (precedes r c.args.units.now) c.sort_blocks.new.blocks) e c.sort_blocks.ensures.sorted in
    subst BasesFirst (sym (front c)) (bases_first c.args.units.now c.sort_blocks.new.blocks (are_blocks c) up)
