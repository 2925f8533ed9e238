use Rattle.std.proofs.Common.{◌≡◌, take}
use Rattle.sim_engine.specs.Curves.{waters}
use Rattle.sim_engine.proofs.load_key.write_waters.Given as goal

abbrev pub invariant-loop-k : goal.invariant-loop-k
invariant-loop-k l = take l.k l.room ≡ take l.k (waters l.system l.config l.period l.condition)
