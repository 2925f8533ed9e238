use Rattle.std.proofs.Common.{◌+◌, ◌-◌, ◌*◌, ◌^◌, ◌≤◌, length, map}
use Rattle.std.specs.Option.{IfSome}
use Rattle.plan_program.specs.Starts.{reached_of}
use Rattle.plan_program.specs.Steps.{IsLeastFrom}
use Rattle.plan_program.proofs.come.least_from.Given as goal

abbrev pub invariant-loop-place : goal.invariant-loop-place
invariant-loop-place l = record {
  within : l.place ≤ length l.starts;
  least : IsLeastFrom l.economy l.steps.year (map reached_of l.starts) l.place l.to.config l.least;
  small : IfSome l.least (λ cost. cost ≤ (l.steps.year - 1) * (2 * 10 ^ 16) + 10 ^ 16);
}

abbrev pub decreases-loop-place : goal.decreases-loop-place
decreases-loop-place l = length l.starts - l.place
