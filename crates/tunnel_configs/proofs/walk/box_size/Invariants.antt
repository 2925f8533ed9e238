use Rattle.std.proofs.Common.{◌≡◌, ◌-◌, ◌≤◌, drop}
use Rattle.year_system.specs.System.{size}
use Rattle.tunnel_configs.proofs.walk.box_size.Given as goal

abbrev pub invariant-loop-k : goal.invariant-loop-k
invariant-loop-k l = record {
  range : l.k ≤ l.width;
  value : l.size ≡ size (drop (l.width - l.k) l.tunnel.width);
}
