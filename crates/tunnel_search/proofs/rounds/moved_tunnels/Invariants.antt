use Rattle.std.proofs.Common.{◌≡◌, All, map}
use Rattle.std.specs.List.{range_with_len}
use Rattle.plant_data.specs.Tunnels.{IsTunnelOf}
use Rattle.tunnel_search.specs.Search.{config_of, moved_tunnel, tunnel_of}
use Rattle.tunnel_search.proofs.rounds.moved_tunnels.Given as goal

abbrev pub invariant-loop-k : goal.invariant-loop-k
invariant-loop-k l = record {
  value : l.next.items ≡ map (λ k. moved_tunnel l.greatest (tunnel_of l.tunnels k) (config_of l.configs k)) (range_with_len 0 l.k);
  fit : All (IsTunnelOf l.greatest) l.next.items;
}
