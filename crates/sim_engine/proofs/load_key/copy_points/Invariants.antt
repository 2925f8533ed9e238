use Rattle.std.proofs.Common.{◌≡◌, take}
use Rattle.sim_engine.proofs.load_key.copy_points.Given as goal

abbrev pub invariant-loop-k : goal.invariant-loop-k
invariant-loop-k l = take l.k l.room ≡ take l.k l.points
