use Rattle.std.proofs.Common.{rules, ◌≡◌, length, sym, ◌∙◌}
use Rattle.std.proofs.lemmas.Result.{IfOk-weaker}
use Rattle.sim_sweep.proofs.GatherSteps.{written}
use Rattle.sim_sweep.proofs.SolveSteps.{solved_tables}
use Rattle.sim_sweep.proofs.solving.solve_all.Goals as goal

pub returns : goal.returns
returns g c =
    let count = c.solve_waiting.ensures.count in
    let news = c.solve_waiting.new.cases in
    let many : length news ≡ c.in_ok-cases.cases.len = search (rules, count) in
    let back = written c.in_ok-cases.cases.len c.in_ok-cases.cases.items news many in
    IfOk-weaker c.all_solved.result _ _ (λ dones h.
    solved_tables c.args.tables.items dones.items c.as_mut_slice.result.now news (c.as_mut_slice.ensures.value ∙ c.in_ok-cases.ensures) (sym back ∙ h) count c.solve_waiting.ensures.solved) c.all_solved.ensures
