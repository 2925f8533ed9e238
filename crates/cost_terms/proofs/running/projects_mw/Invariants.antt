use Rattle.std.proofs.Common.{◌≡◌, ◌*◌, ◌≤◌, sum_by, take}
use Rattle.cost_terms.specs.declared.prices.ProjectCost.{ProjectCost}
use Rattle.cost_terms.proofs.running.projects_mw.Given as goal

abbrev pub invariant-loop-j : goal.invariant-loop-j
invariant-loop-j l =
    record {
      value : l.total ≡ sum_by (λ (p : ProjectCost). p.capacity) (take l.j l.group.projects);
      small : l.total ≤ 20000 * l.j;
    }
