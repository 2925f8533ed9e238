use Rattle.std.proofs.Common.{◌≡◌, length, map, take}
use Rattle.std.specs.List.{range_with_len}
use Rattle.tunnel_search.specs.Search.{moved_at}
use Rattle.tunnel_search.proofs.moving.moved.Given as goal

abbrev pub invariant-loop-k : goal.invariant-loop-k
invariant-loop-k l = record {
  least : (length l.least ≡ length l.chosen) × (take l.k l.least ≡ map (λ k. (moved_at l.greatest l.tunnel l.chosen k).0) (range_with_len 0 l.k));
  width : (length l.width ≡ length l.chosen) × (take l.k l.width ≡ map (λ k. (moved_at l.greatest l.tunnel l.chosen k).1) (range_with_len 0 l.k));
}
