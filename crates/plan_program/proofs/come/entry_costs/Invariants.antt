use Rattle.std.proofs.Common.{◌≡◌, ℕ, ◌*◌, ◌^◌, ◌<◌, ◌≤◌, length, map, slice_index_or, Some, None}
use Rattle.plan_program.specs.Plans.{entry_at}
use Rattle.plan_program.specs.Starts.{reached_of}
use Rattle.plan_program.specs.Steps.{IsRaised}
use Rattle.plan_program.proofs.come.entry_costs.Given as goal

abbrev pub invariant-loop-entry : goal.invariant-loop-entry
invariant-loop-entry l = record {
  entries : length l.come.items ≡ l.entry-index;
  each : (i : ℕ) → i < l.entry-index → IsRaised l.economy l.steps.year (map reached_of l.starts) (entry_at l.layer i) (slice_index_or l.come.items i None);
  small : (i cost : ℕ) → slice_index_or l.come.items i None ≡ Some cost → cost ≤ l.steps.year * (2 * 10 ^ 16);
}
