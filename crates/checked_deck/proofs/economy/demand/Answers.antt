use Rattle.std.proofs.Common.{◌*◌, ◌/◌, ◌<◌, arith}
use Rattle.deck_lines.specs.Deck.{body_of}
use Rattle.deck_check.specs.Readings.{periods}
use Rattle.checked_deck.proofs.Energies.{demand_more, load_cells}
use Rattle.checked_deck.proofs.LoadFacts.{load_is}
use Rattle.checked_deck.proofs.Sound.{sound_is}
use Rattle.checked_deck.proofs.economy.demand.Goals as goal

pub energy-requires-clause-load : goal.energy-requires-clause-load
energy-requires-clause-load c =
    let within : c.loop-i.i < periods (body_of c.args.deck.now) = omega (arith, c.loop-i-test.true, c.periods-periods.ensures.value) in
    rw c.in_ok-load.ensures (load_is (body_of c.args.deck.now) (sound_is c.args.deck.now c.requires.typed) c.args.t c.loop-i.i c.requires.low c.requires.high within)

pub energy-requires-clause-cells : goal.energy-requires-clause-cells
energy-requires-clause-cells c =
    let within : c.loop-i.i < periods (body_of c.args.deck.now) = omega (arith, c.loop-i-test.true, c.periods-periods.ensures.value) in
    rw (c.in_ok-load.ensures, c.step.ensures.value) (load_cells c.args.deck.now c.args.t c.loop-i.i c.requires.typed c.requires.low c.requires.high within)

pub loop-i-preserved : goal.loop-i-preserved
loop-i-preserved c =
    let value = c.in_ok-total.ensures.value in
    let small = c.in_ok-total.ensures.small in
    demand_more _ (400019 * (8760 / periods (body_of c.args.deck.now))) c.loop-i.total c.loop-i.i c.in_ok-total.field-0 c.loop-i.invariant
    (rw (c.in_ok-load.ensures, c.step.ensures.value, c.periods-periods.ensures.value) at value)
    (rw c.periods-periods.ensures.value at small)
