use Rattle.std.proofs.Common.{◌≡◌, ◌≤◌, ◌*◌, sum, take}
use Rattle.hourly_load.proofs.shape.total.Given as goal

abbrev pub invariant-loop-load : goal.invariant-loop-load
invariant-loop-load l = record {
  value : l.sum ≡ sum (take l.load-index l.loads);
  small : l.sum ≤ 65535 * l.load-index;
}
