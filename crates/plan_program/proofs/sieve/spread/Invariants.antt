use Rattle.plan_program.proofs.SieveBits.{AreSpread}
use Rattle.plan_program.proofs.sieve.spread.Given as goal

abbrev pub invariant-loop-v : goal.invariant-loop-v
invariant-loop-v l = AreSpread l.initial.row l.row l.v
