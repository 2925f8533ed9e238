use Rattle.std.proofs.Common.{◌≡◌, arith, ◌∙◌, ap, length, ◌++◌, ◌+◌, get_or, []}
use Rattle.std.proofs.lemmas.List.{length-append}
use Rattle.plant_data.proofs.UnitLists.{piece_more}
use Rattle.plant_data.specs.Units.{no_unit}
use Rattle.loading_order.specs.LoadingOrder.{unit_blocks}
use Rattle.loading_order.proofs.BlockLists.{blocks_below, blocks_more, blocks_all, unit_blocks_few, drop_far}
use Rattle.loading_order.proofs.blocks.write_blocks.Goals as goal

pub loop-place-preserved : goal.loop-place-preserved
loop-place-preserved c =
    let units = c.args.units.now in
    let n = c.loop-place.place in
    let piece = unit_blocks n (get_or units n no_unit) in
    let m : blocks_below units (n + 1) ≡ blocks_below units n ++ piece = blocks_more units n no_unit c.loop-place-test.true in
    let e = c.write_unit-end.ensures.end in (
      omega (arith, unit_blocks_few n (get_or units n no_unit), e),
      omega (arith, ap length m, length-append (blocks_below units n) piece, e),
      piece_more c.write_unit-end.new.room c.loop-place.room [] (blocks_below units n) piece (blocks_below units (n + 1)) c.loop-place.end c.write_unit-end.result c.write_unit-end.ensures.value c.loop-place.invariant.2 m,
      c.write_unit-end.ensures.rest ∙ drop_far c.loop-place.end c.write_unit-end.result c.loop-place.room c.args.room.now (omega (arith, e)) c.loop-place.invariant.3,
    )

pub returns-clause-value : goal.returns-clause-value
returns-clause-value c = c.loop-place.invariant.2 ∙ blocks_all c.args.units.now c.loop-place.place c.loop-place-test.false

pub returns-clause-end : goal.returns-clause-end
returns-clause-end c = c.loop-place.invariant.1 ∙ ap length (blocks_all c.args.units.now c.loop-place.place c.loop-place-test.false)
