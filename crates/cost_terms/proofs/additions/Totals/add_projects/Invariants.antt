use Rattle.std.proofs.Common.{◌+◌, ◌*◌, ◌≤◌}
use Rattle.cost_terms.specs.Cost.{added_projects}
use Rattle.cost_terms.specs.Totals.{Adds, IsWithin}
use Rattle.cost_terms.proofs.additions.Totals.add_projects.Given as goal

abbrev pub invariant-loop-j : goal.invariant-loop-j
invariant-loop-j l =
    record {
      adds : Adds l.horizon l.self (added_projects l.group l.from (l.from + l.j)) l.totals;
      within : IsWithin l.horizon l.totals;
      mw : l.totals.mw ≤ l.self.mw + 20000 * l.j;
    }
