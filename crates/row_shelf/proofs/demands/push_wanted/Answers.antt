use Rattle.std.proofs.Common.{[], ◌∷◌, ◌+◌, take}
use Rattle.row_shelf.proofs.DemandLists.{wanted_more, year_more}
use Rattle.row_shelf.specs.Demands.{year_demands}
use Rattle.sim_sweep.specs.declared.demand.Demand.{Demand}
use Rattle.row_shelf.proofs.demands.push_wanted.Goals as goal

pub loop-config-preserved : goal.loop-config-preserved
loop-config-preserved c =
    let l = c.loop-config in
    let book = c.args.book.now in
    let configs = c.args.configs.now in
    let x = c.config-item.result in
    let one : Demand = record { code = c.code-code.result; id = c.args.id; config = x } in
    wanted_more c.args.kept.now c.args.out.now.items l.out.items c.push_unkept.new.out.items
    (year_demands book (c.args.id, take l.config-index configs)) (one ∷ []) (year_demands book (c.args.id, take (l.config-index + 1) configs))
    l.invariant c.in_ok-push_unkept.ensures
    (year_more book c.get-system.result.now c.args.id c.code-code.result l.config-index configs x c.get-system.ensures.value c.code-code.ensures.value c.loop-config-test.true c.config-item.is)
