use Rattle.plan_program.proofs.StartSteps.{listed_starts}
use Rattle.plan_program.proofs.come.starts_of.Goals as goal

pub returns-clause-starts : goal.returns-clause-starts
returns-clause-starts c = listed_starts c.args.economy.now c.args.steps.now.year c.args.reached.now c.in_ok-starts.starts.items c.sort_starts.new.starts.items c.in_ok-starts.ensures c.sort_starts.ensures.permutation
