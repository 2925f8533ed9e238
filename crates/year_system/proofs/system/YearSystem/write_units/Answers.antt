use Rattle.std.proofs.Common.{◌≡◌, length, arith, ◌∙◌}
use Rattle.plant_data.proofs.Distinct.{units_distinct}
use Rattle.plant_data.specs.Units.{units_of}
use Rattle.year_system.proofs.ThermalSteps.{units_fit}
use Rattle.year_system.proofs.system.YearSystem.write_units.Goals as goal

pub units_of-requires-clause-fits : goal.units_of-requires-clause-fits
units_of-requires-clause-fits c =
    let s = c.args.self.now in
    rw (c.existing.ensures.value, c.thermal.ensures.value) (omega (arith, units_fit s c.args.config.now c.requires.fits, c.requires.room))

pub returns-clause-few : goal.returns-clause-few
returns-clause-few c =
    let s = c.args.self.now in
    let count : c.units_of.result ≡ length (units_of s.existing s.thermal c.args.config.now) =
    c.units_of.ensures.count ∙ λ i. length (units_of (c.existing.ensures.value i) (c.thermal.ensures.value i) c.args.config.now) in
    omega (arith, units_fit s c.args.config.now c.requires.fits, count)

pub returns-clause-distinct : goal.returns-clause-distinct
returns-clause-distinct c =
    let s = c.args.self.now in
    rw (c.units_of.ensures.value, c.existing.ensures.value, c.thermal.ensures.value) (units_distinct s.existing s.thermal c.args.config.now c.existing.ensures.valid.numbers)
