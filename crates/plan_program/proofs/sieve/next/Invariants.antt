use Rattle.std.proofs.Common.{ℕ, ◌*◌, ◌<◌, ◌≤◌, length}
use Rattle.plant_data.specs.Configs.{IsAtMost}
use Rattle.plan_program.specs.Starts.{start_at}
use Rattle.plan_program.proofs.sieve.next.Given as goal

abbrev pub invariant-loop-w : goal.invariant-loop-w
invariant-loop-w l = (i : ℕ) → l.from ≤ i → i < 64 * l.w → i < length l.starts → IsAtMost (start_at l.starts i).standing.config l.to → ⊥
