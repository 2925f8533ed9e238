use Rattle.std.proofs.Common.{◌≡◌, All, map}
use Rattle.std.specs.List.{range_with_len}
use Rattle.checked_deck.specs.TypedDeck.{tunnel}
use Rattle.deck_check.specs.Readings.{greatest}
use Rattle.deck_lines.specs.Deck.{body_of}
use Rattle.plant_data.specs.Tunnels.{IsTunnelOf}
use Rattle.case_study.proofs.listing.own_tunnels.Given as goal

abbrev pub invariant-loop-k : goal.invariant-loop-k
invariant-loop-k l = record {
  own : l.tunnels.items ≡ map (λ t. tunnel (body_of l.typed) l.case t) (range_with_len 1 l.k);
  fit : All (IsTunnelOf (greatest (body_of l.typed))) l.tunnels.items;
}
