use Rattle.std.proofs.Common.{◌≡◌, ◌≤◌, drop}
use Rattle.row_shelf.specs.Rooms.{greatest_of}
use Rattle.year_system.specs.System.{cells, unit_limit}
use Rattle.row_shelf.proofs.rooms.room_for.Given as goal

abbrev pub invariant-loop-k : goal.invariant-loop-k
invariant-loop-k l = record {
  cells : greatest_of cells l.book l.cells (drop l.k l.ids) ≡ greatest_of cells l.book 0 l.ids;
  units : greatest_of unit_limit l.book l.units (drop l.k l.ids) ≡ greatest_of unit_limit l.book 0 l.ids;
  few_cells : l.cells ≤ 65536;
  few_units : l.units ≤ 128;
}
