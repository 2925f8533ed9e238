use Rattle.std.proofs.Common.{◌+◌, ◌≤◌, length}
use Rattle.tunnel_configs.specs.Listed.{IsInTunnel}
use Rattle.tunnel_configs.specs.Neighbours.{left}
use Rattle.tunnel_configs.proofs.Gathered.{Before, Found}
use Rattle.tunnel_configs.proofs.listing.gather.Given as goal

abbrev pub invariant-loop-count : goal.invariant-loop-count
invariant-loop-count l = record {
  tunnel : IsInTunnel l.tunnel l.config;
  few : l.count + left l.tunnel l.config ≤ 1000000;
  kept : length l.configs.items ≤ 500;
  found : Found l.system l.tunnel l.margin (Before l.config) l.count l.configs.items;
}

abbrev pub decreases-loop-count : goal.decreases-loop-count
decreases-loop-count l = left l.tunnel l.config
