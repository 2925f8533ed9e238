use Rattle.std.proofs.Common.{◌≡◌, ℕ, ◌<◌, ◌≤◌, length, slice_index}
use Rattle.tunnel_configs.proofs.walk.reset_from.Given as goal

abbrev pub invariant-loop-k : goal.invariant-loop-k
invariant-loop-k l = record {
  width : length l.config ≡ length l.fn.config;
  before : (i : ℕ) → i < l.from → slice_index l.config i ≡ slice_index l.fn.config i;
  after : (i : ℕ) → l.from ≤ i → i < l.k → slice_index l.config i ≡ slice_index l.tunnel.least i;
}
