use Rattle.std.proofs.Common.{refl, ⊎_elim}
use Rattle.wasp4.specs.declared.asked.Asked.TheVariants as asks
use Rattle.wasp4.proofs.Ends.{room_for_end}
use Rattle.wasp4.proofs.tests.sure_edges_never_fail.Goals as goal

pub unreachable-requires : goal.unreachable-requires
unreachable-requires g c = ⊎_elim
    (λ read. c.run-status.ensures.never_read_fault c.in_ok-source.ensures.sure read)
    (λ write. c.run-status.ensures.never_write_fault (asks.Plan 1) (rw (c.in_ok-push.ensures.ok, c.new-words.ensures) refl) (room_for_end _ _ _ c.in_ok-source.ensures.told c.in_ok-sink.ensures.told c.in_ok-sink.ensures.sure_room) write)
    c.in-ReadFault.is
