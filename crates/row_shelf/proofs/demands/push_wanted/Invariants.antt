use Rattle.std.proofs.Common.{take}
use Rattle.row_shelf.specs.Demands.{AddsWanted, year_demands}
use Rattle.row_shelf.proofs.demands.push_wanted.Given as goal

abbrev pub invariant-loop-config : goal.invariant-loop-config
invariant-loop-config l = AddsWanted l.kept (year_demands l.book (l.id, take l.config-index l.configs)) l.initial.out.items l.out.items
