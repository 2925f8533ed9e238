use Rattle.std.proofs.Common.{◌≡◌, map, take}
use Rattle.sim_engine.specs.Laid.{turn_of}
use Rattle.sim_engine.proofs.laying.write_turns.Given as goal

abbrev pub invariant-loop-k : goal.invariant-loop-k
invariant-loop-k l = take l.k l.turns ≡ map (turn_of l.available) (take l.k l.spans)
