use Rattle.std.proofs.Common.{take}
use Rattle.row_shelf.specs.Demands.{AddsWanted, all_demands}
use Rattle.row_shelf.proofs.demands.push_cases.Given as goal

abbrev pub invariant-loop-lists : goal.invariant-loop-lists
invariant-loop-lists l = AddsWanted l.kept (all_demands l.book l.ids (take l.lists-index l.cases)) l.initial.out.items l.out.items
