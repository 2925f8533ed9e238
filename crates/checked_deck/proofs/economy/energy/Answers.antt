use Rattle.std.proofs.Common.{◌≡◌, ◌+◌, ◌-◌, ◌/◌, ap, arith, ◌∙◌}
use Rattle.convolution.specs.CellList.{CellList}
use Rattle.load_curves.proofs.Ceilings.{ceiling-div_ceil}
use Rattle.checked_deck.proofs.Energies.{energy_is, energy_small}
use Rattle.checked_deck.proofs.economy.energy.Goals as goal

pub fill_curve-requires-clause-room : goal.fill_curve-requires-clause-room
fill_curve-requires-clause-room c =
    let e : c.in_ok-curve.curve.room ≡ c.div_ceil-cells.result = ap (λ (x : CellList). x.room) c.in_ok-curve.ensures in
    let n : c.div_ceil-cells.result ≡ (c.args.load.now.peak + c.args.step - 1) / c.args.step = c.div_ceil-cells.ensures ∙ ceiling-div_ceil c.args.load.now.peak c.args.step c.requires.step in
    omega (arith, e, n)

pub returns-clause-value : goal.returns-clause-value
returns-clause-value c =
    let n : c.div_ceil-cells.result ≡ (c.args.load.now.peak + c.args.step - 1) / c.args.step = c.div_ceil-cells.ensures ∙ ceiling-div_ceil c.args.load.now.peak c.args.step c.requires.step in
    energy_is c.args.step c.args.hours c.args.load.now c.fill_curve.new.curve.cells c.div_ceil-cells.result c.area.result c.fill_curve.ensures.value n c.area.ensures.value

pub returns-clause-small : goal.returns-clause-small
returns-clause-small c =
    let n : c.div_ceil-cells.result ≡ (c.args.load.now.peak + c.args.step - 1) / c.args.step = c.div_ceil-cells.ensures ∙ ceiling-div_ceil c.args.load.now.peak c.args.step c.requires.step in
    energy_small c.args.step c.args.hours c.args.load.now.peak c.div_ceil-cells.result c.area.result c.requires.step c.requires.step_most c.requires.load.peak.1 n c.area.ensures.small
