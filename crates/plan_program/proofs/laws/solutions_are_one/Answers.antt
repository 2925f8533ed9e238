use Rattle.plan_program.proofs.OneSolution.{one_solution}
use Rattle.plan_program.proofs.laws.solutions_are_one.Goals as goal

pub returns : goal.returns
returns c = one_solution
