use Rattle.std.proofs.Common.{List, ℕ, ◌+◌, subst, take}
use Rattle.row_shelf.specs.Demands.{AddsWanted, all_demands, years_demands}
use Rattle.row_shelf.proofs.DemandLists.{cases_more, wanted_more}
use Rattle.row_shelf.proofs.demands.push_cases.Goals as goal

pub loop-lists-preserved : goal.loop-lists-preserved
loop-lists-preserved c =
    let l = c.loop-lists in
    let book = c.args.book.now in
    let ids = c.args.ids.now in
    let cases = c.args.cases.now in
    let lists = c.lists-item.result in
    let added = subst (λ (ys : List (List (List ℕ))). AddsWanted c.args.kept.now (years_demands book ids ys) l.out.items c.push_years.new.out.items) c.as_slice.ensures c.in_ok-push_years.ensures in
    wanted_more c.args.kept.now c.args.out.now.items l.out.items c.push_years.new.out.items
    (all_demands book ids (take l.lists-index cases)) (years_demands book ids lists) (all_demands book ids (take (l.lists-index + 1) cases))
    l.invariant added
    (cases_more book ids cases l.lists-index lists c.loop-lists-test.true c.lists-item.is)
