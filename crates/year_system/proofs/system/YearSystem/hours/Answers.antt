use Rattle.year_system.proofs.CellSteps.{hours_whole}
use Rattle.std.proofs.Common.{length}
use Rattle.year_system.proofs.system.YearSystem.hours.Goals as goal

pub returns-clause-whole : goal.returns-clause-whole
returns-clause-whole c =
    let periods = c.loads.ensures.valid.periods in
    rw c.loads.ensures.value (hours_whole (length c.args.self.now.loads) periods.0 periods.2)
