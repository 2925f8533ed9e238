use Rattle.std.proofs.Common.{◌+◌, ◌<◌, ◌^◌, List, sym, subst, arith}
use Rattle.std.specs.Prelude.{slice_index_or}
use Rattle.board_core.specs.declared.actor.Actor.{Actor}
use Rattle.board_core.specs.Events.{spent}
use Rattle.board_core.specs.Machine.{Machine, IsSoundMachine}
use Rattle.board_core.proofs.Machines.{shares_below}
use Rattle.board_core.proofs.store.Store.join.Goals as goal

pub join_in-requires-clause-shares : goal.join_in-requires-clause-shares
join_in-requires-clause-shares c =
    let i = c.self.inside in
    let m : Machine = record { bits = i.bits; slots = i.slots.items; actors = i.actors.items; rows = i.rows.items; start = i.start.items } in
    subst (λ (l : List Actor). (slice_index_or l c.args.actor spent).share + (slice_index_or l c.args.other spent).share < 2 ^ 64) (sym c.as_mut_slice.ensures.value)
    (shares_below m c.args.actor c.args.other c.index.result.now c.index-else-not-index.result.now (subst IsSoundMachine (sym c.self.view_is) c.requires) (omega arith) (omega arith) c.if-actor-other.false
    c.index.ensures c.index-else-not-index.ensures c.if-not-index.false c.if-not-index-2.false)
