use Rattle.sim_sweep.proofs.settling.solve_table.Goals as goal

pub returns-clause-small : goal.returns-clause-small
returns-clause-small c = rw c.new.ensures c.in_ok-solved.ensures.small
