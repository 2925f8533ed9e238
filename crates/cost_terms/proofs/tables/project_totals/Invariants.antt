use Rattle.std.proofs.Common.{ℕ, ◌+◌, ◌*◌, ◌≤◌, take}
use Rattle.std.specs.List.{flat_map}
use Rattle.cost_terms.specs.Cost.{added_projects, group_steps, nothing_built}
use Rattle.cost_terms.specs.Totals.{Adds, IsWithin}
use Rattle.cost_terms.specs.declared.prices.GroupCost.{GroupCost}
use Rattle.cost_terms.proofs.tables.project_totals.Given as goal

abbrev pub invariant-loop-k : goal.invariant-loop-k
invariant-loop-k l =
    record {
      adds : Adds l.table.horizon l.fn.thermal (flat_map (λ (s : GroupCost × (ℕ × ℕ)). added_projects s.0 s.1.0 s.1.1) (take l.k (group_steps l.costs (nothing_built l.costs) l.config))) l.totals;
      within : IsWithin l.table.horizon l.totals;
      mw : l.totals.mw ≤ l.fn.thermal.mw + 300000 * l.k;
    }
