use Rattle.std.proofs.Common.{◌∙◌, ap, sym, max, arith}
use Rattle.row_shelf.proofs.RoomSteps.{greatest_all, greatest_more}
use Rattle.year_system.specs.System.{cells, unit_limit}
use Rattle.row_shelf.proofs.rooms.room_for.Goals as goal

pub loop-k-preserved : goal.loop-k-preserved
loop-k-preserved c =
    let l = c.loop-k in
    let s = c.get-system.result.now in
    record {
      cells = greatest_more cells c.args.book.now c.args.ids.now l.k l.cells c.larger-cells.result s c.loop-k-test.true c.get-system.ensures.value (c.larger-cells.ensures ∙ ap (max l.cells) c.cells.ensures.value) ∙ l.invariant.cells;
      units = greatest_more unit_limit c.args.book.now c.args.ids.now l.k l.units c.larger-units.result s c.loop-k-test.true c.get-system.ensures.value (c.larger-units.ensures ∙ ap (max l.units) c.unit_limit.ensures.value) ∙ l.invariant.units;
      few_cells = omega (arith, c.larger-cells.ensures, l.invariant.few_cells, c.cells.ensures.small);
      few_units = omega (arith, c.larger-units.ensures, l.invariant.few_units, c.unit_limit.ensures.small);
    }

pub returns-clause-cells : goal.returns-clause-cells
returns-clause-cells c = sym (greatest_all cells c.args.book.now c.args.ids.now c.loop-k.k c.loop-k.cells (omega arith)) ∙ c.loop-k.invariant.cells

pub returns-clause-units : goal.returns-clause-units
returns-clause-units c = sym (greatest_all unit_limit c.args.book.now c.args.ids.now c.loop-k.k c.loop-k.units (omega arith)) ∙ c.loop-k.invariant.units
