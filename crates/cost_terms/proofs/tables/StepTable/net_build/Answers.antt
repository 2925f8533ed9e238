use Rattle.std.proofs.Common.{◌∙◌, ◌-◌, arith}
use Rattle.cost_terms.proofs.TableSteps.{AreDifferences, differences_at, falling, invested_most, regained_is, worth_is}
use Rattle.cost_terms.proofs.tables.StepTable.net_build.Goals.{After-thermal_salvage-units}
use Rattle.cost_terms.proofs.tables.StepTable.net_build.Goals as goal

differ : (c : After-thermal_salvage-units) → AreDifferences c.args.economy.now c.args.self.now.year c.args.before.now c.args.after.now c.thermal_salvage-units.result
differ c = differences_at c.args.economy.now c.costs.result.now c.args.self.now c.args.before.now c.args.after.now c.thermal_salvage-units.result c.costs.ensures.value c.requires.table c.requires.before c.requires.after c.requires.grows c.thermal_salvage-units.ensures.value

pub thermal_salvage-units-requires-clause-horizon : goal.thermal_salvage-units-requires-clause-horizon
thermal_salvage-units-requires-clause-horizon c = (falling c.args.economy.now c.args.self.now c.requires.table).sees

pub overflow_sub-after : goal.overflow_sub-after
overflow_sub-after c = (differ c).domestic

pub overflow_sub-after-2 : goal.overflow_sub-after-2
overflow_sub-after-2 c = (differ c).foreign

pub overflow_sub-after-3 : goal.overflow_sub-after-3
overflow_sub-after-3 c = (differ c).inventory

pub overflow_sub-after-4 : goal.overflow_sub-after-4
overflow_sub-after-4 c = (differ c).projects

pub net-requires-clause-regained : goal.net-requires-clause-regained
net-requires-clause-regained c = regained_is c.args.economy.now c.args.self.now c.args.before.now.config c.args.after.now.config _ _ _ _ c.requires.table (differ c).step

pub overflow_add-units : goal.overflow_add-units
overflow_add-units c =
    let f = falling c.args.economy.now c.args.self.now c.requires.table in
    let r = regained_is c.args.economy.now c.args.self.now c.args.before.now.config c.args.after.now.config _ _ _ _ c.requires.table (differ c).step in
    let m = invested_most (c.args.after.now.domestic - c.args.before.now.domestic) c.args.self.now.worth (c.args.after.now.foreign - c.args.before.now.foreign) c.args.self.now.abroad
    (omega (arith, c.requires.after.most)) (omega (arith, c.requires.after.most_abroad)) f.worth f.abroad in
    omega (arith, r, m)

pub net-requires-clause-worth : goal.net-requires-clause-worth
net-requires-clause-worth c = (falling c.args.economy.now c.args.self.now c.requires.table).worth

pub net-requires-clause-abroad : goal.net-requires-clause-abroad
net-requires-clause-abroad c = (falling c.args.economy.now c.args.self.now c.requires.table).abroad

pub net-requires-clause-falls : goal.net-requires-clause-falls
net-requires-clause-falls c = (falling c.args.economy.now c.args.self.now c.requires.table).falls

pub returns-clause-value : goal.returns-clause-value
returns-clause-value c = c.net.ensures.value ∙ worth_is c.args.economy.now c.args.self.now c.args.before.now.config c.args.after.now.config _ _ _ _ c.requires.table (differ c.before).step
