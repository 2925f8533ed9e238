use Rattle.cost_terms.specs.Cost.{nothing_built}
use Rattle.cost_terms.proofs.TableSteps.{AreFromNothing, falling, from_nothing_at, regained_is}
use Rattle.cost_terms.proofs.tables.StepTable.standing.Goals.{After-project_totals-totals}
use Rattle.cost_terms.proofs.tables.StepTable.standing.Goals as goal

sums : (c : After-project_totals-totals) → AreFromNothing c.args.economy.now c.args.self.now.year c.args.config.now c.thermal_sums-thermal.result c.project_totals-totals.result
sums c = from_nothing_at c.args.economy.now c.costs-costs.result.now c.args.self.now c.args.config.now c.thermal_sums-thermal.result c.project_totals-totals.result c.costs-costs.ensures.value c.requires.table
    c.thermal_sums-thermal.ensures.adds c.project_totals-totals.ensures.adds c.project_totals-totals.ensures.within c.project_totals-totals.ensures.mw

pub thermal_sums-thermal-requires-clause-horizon : goal.thermal_sums-thermal-requires-clause-horizon
thermal_sums-thermal-requires-clause-horizon c = (falling c.args.economy.now c.args.self.now c.requires.table).sees

pub project_totals-totals-requires-clause-horizon : goal.project_totals-totals-requires-clause-horizon
project_totals-totals-requires-clause-horizon c = (falling c.args.economy.now c.args.self.now c.requires.table).sees

pub net-net-requires-clause-worth : goal.net-net-requires-clause-worth
net-net-requires-clause-worth c = (falling c.args.economy.now c.args.self.now c.requires.table).worth

pub net-net-requires-clause-abroad : goal.net-net-requires-clause-abroad
net-net-requires-clause-abroad c = (falling c.args.economy.now c.args.self.now c.requires.table).abroad

pub net-net-requires-clause-falls : goal.net-net-requires-clause-falls
net-net-requires-clause-falls c = (falling c.args.economy.now c.args.self.now c.requires.table).falls

pub net-net-requires-clause-regained : goal.net-net-requires-clause-regained
net-net-requires-clause-regained c = regained_is c.args.economy.now c.args.self.now (nothing_built c.args.economy.now) c.args.config.now _ _ _ _ c.requires.table (sums c).step
