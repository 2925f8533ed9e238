use Rattle.std.proofs.Common.{◌≡◌, ◌<◌, length, ap, ◌∙◌, arith, true}
use Rattle.board_core.specs.declared.slot.Slot.{Slot}
use Rattle.board_core.specs.Machine.{Machine, free_slot}
use Rattle.board_core.proofs.Machines.{shaped_actor, shaped_slot, same_default}
use Rattle.board_core.proofs.store.Store.publish.Goals as goal

pub invariant_of-self-2 : goal.invariant_of-self-2
invariant_of-self-2 c =
    let i = c.self.inside in
    let m : Machine = record { bits = i.bits; slots = i.slots.items; actors = i.actors.items; rows = i.rows.items; start = i.start.items } in
    let lt : c.args.slot < length i.slots.items = omega arith in
    let e = c.index_mut-2.ensures in
    let len : length c.index_mut-2.result.now.words ≡ 11 = ap (λ (v : Slot). length v.words) (e.value ∙ same_default i.slots.items c.args.slot c.index_mut-2.result.now free_slot lt) ∙ c.self.invariant.words c.args.slot lt in
    shaped_actor _ c.args.actor c.fill.new.actor (shaped_slot m c.args.slot (record { code = c.index_mut-2.result.now.code; filled = true; words = c.index_mut-2.result.now.words }) len lt c.self.invariant)
