use Rattle.std.proofs.Common.{ℕ}
use Rattle.sim_fast.specs.Turns.{KeepsBench, StandsAt}
use Rattle.sim_fast.proofs.workbench.load_rest.Given as goal

abbrev pub invariant-loop-k : goal.invariant-loop-k
invariant-loop-k l =
    record {
      stands : (base : ℕ → ℕ) → StandsAt base l.turns l.from l.fn.bench → StandsAt base l.turns l.k l.bench;
      kept : KeepsBench l.fn.bench l.bench;
    }
