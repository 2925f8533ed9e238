use Rattle.std.proofs.Common.{List, None, get_or, map, subst}
use Rattle.plan_program.specs.Plans.{entry_at}
use Rattle.plan_program.specs.Starts.{reached_of}
use Rattle.plan_program.specs.Steps.{IsRaised}
use Rattle.plan_program.specs.declared.come.Start.{Start}
use Rattle.plan_program.proofs.StartSteps.{raised_same}
use Rattle.plan_program.proofs.come.year_costs.Goals as goal

pub returns-clause-each : goal.returns-clause-each
returns-clause-each c = λ i b.
    let e = entry_at c.args.layer.now i in
    let come = get_or c.in_ok-come.come.items i None in
    let raised : IsRaised c.args.economy.now c.in_ok-steps.steps.year (map reached_of c.in_ok-starts.starts.items) e come =
    subst (λ (ss : List Start). IsRaised c.args.economy.now c.in_ok-steps.steps.year (map reached_of ss) e come) c.deref-2.ensures.value (c.in_ok-come.ensures.each i b) in
    subst (λ y. IsRaised c.args.economy.now y c.args.reached.now e come) c.in_ok-steps.ensures.year
    (raised_same c.args.economy.now c.in_ok-steps.steps.year c.args.reached.now c.in_ok-starts.starts.items e come c.in_ok-starts.ensures.starts raised)
