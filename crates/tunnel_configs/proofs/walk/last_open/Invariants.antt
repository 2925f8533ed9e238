use Rattle.std.proofs.Common.{◌≡◌, ℕ, ◌+◌, ◌<◌, ◌≤◌, length, slice_index}
use Rattle.tunnel_configs.proofs.walk.last_open.Given as goal

abbrev pub invariant-loop-k : goal.invariant-loop-k
invariant-loop-k l = record {
  within : l.k ≤ length l.config;
  full : (i : ℕ) → l.k ≤ i → i < length l.config → slice_index l.config i ≡ slice_index l.tunnel.least i + slice_index l.tunnel.width i;
}

abbrev pub decreases-loop-k : goal.decreases-loop-k
decreases-loop-k l = l.k
