use Rattle.std.proofs.Common.{◌≡◌, ◌+◌, ◌*◌, length, map, slice_index, take}
use Rattle.std.specs.List.{range_with_len}
use Rattle.checked_deck.proofs.cases.counts_in.Given as goal

abbrev pub invariant-loop-k : goal.invariant-loop-k
invariant-loop-k l = (length l.config ≡ l.width) × (take l.k l.config ≡ map (λ k. slice_index l.counts (2 * k + l.part)) (range_with_len 0 l.k))
