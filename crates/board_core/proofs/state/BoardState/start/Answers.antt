use Rattle.board_core.proofs.Laying.{shaped_start, sound_start}
use Rattle.board_core.proofs.state.BoardState.start.Goals as goal

pub new-requires : goal.new-requires
new-requires c = shaped_start c.args.bits c.args.due.now c.args.kept.now c.in_ok-slots.slots.items c.in_ok-start.start.items c.requires.bits c.requires.codes c.in_ok-slots.ensures.laid

pub invariant_of-result : goal.invariant_of-result
invariant_of-result c = sound_start c.args.bits c.args.due.now c.args.kept.now c.in_ok-slots.slots.items c.in_ok-start.start.items c.in_ok-store.store c.requires.bits c.requires.codes c.in_ok-start.ensures c.in_ok-slots.ensures.laid c.in_ok-store.ensures

pub returns-clause-sound : goal.returns-clause-sound
returns-clause-sound c = sound_start c.args.bits c.args.due.now c.args.kept.now c.in_ok-slots.slots.items c.in_ok-start.start.items c.in_ok-store.store c.requires.bits c.requires.codes c.in_ok-start.ensures c.in_ok-slots.ensures.laid c.in_ok-store.ensures
