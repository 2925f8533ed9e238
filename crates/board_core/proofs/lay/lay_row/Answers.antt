use Rattle.std.proofs.Common.{◌∷◌, [], ◌++◌, refl, arith}
use Rattle.board_core.specs.Rows.{codes_of}
use Rattle.board_core.specs.Start.{LaysRow}
use Rattle.board_core.specs.Laid.{IsLaid}
use Rattle.board_core.proofs.Laying.{laid_more, lays, free_at, never_full}
use Rattle.board_core.proofs.lay.lay_row.Goals as goal

pub returns-then-slots-slot-eq0-clause-laid : goal.returns-then-slots-slot-eq0-clause-laid
returns-then-slots-slot-eq0-clause-laid c =
    let free = free_at c.args.bits c.args.slots.now c.loop-i.slots c.args.row.now.code c.loop-i.i c.home_of-home.result c.slots_of-count.result _ c.home_of-home.ensures.value c.slots_of-count.ensures.value c.loop-i.invariant.same (omega arith) c.if-slots-slot-eq0.true in
    lays c.args.bits c.args.slots.now c.loop-i.slots c.args.row.now c.loop-i.i c.home_of-home.result c.slots_of-count.result c.to_array.result c.home_of-home.ensures.value c.slots_of-count.ensures.value c.loop-i.invariant.same c.to_array.ensures
    (IsLaid c.args.bits c.args.due.now (codes_of (c.args.before.now ++ c.args.row.now ∷ [])))
    (laid_more c.args.bits c.args.due.now c.args.before.now c.args.slots.now c.args.row.now c.loop-i.i c.requires.codes c.requires.equal c.requires.row.0 c.requires.row.1 c.requires.laid (omega arith) c.loop-i.invariant.past free (omega arith))

pub returns-then-slots-slot-eq0-clause-placed : goal.returns-then-slots-slot-eq0-clause-placed
returns-then-slots-slot-eq0-clause-placed c =
    let free = free_at c.args.bits c.args.slots.now c.loop-i.slots c.args.row.now.code c.loop-i.i c.home_of-home.result c.slots_of-count.result _ c.home_of-home.ensures.value c.slots_of-count.ensures.value c.loop-i.invariant.same (omega arith) c.if-slots-slot-eq0.true in
    lays c.args.bits c.args.slots.now c.loop-i.slots c.args.row.now c.loop-i.i c.home_of-home.result c.slots_of-count.result c.to_array.result c.home_of-home.ensures.value c.slots_of-count.ensures.value c.loop-i.invariant.same c.to_array.ensures
    (LaysRow c.args.bits c.args.slots.now c.args.row.now) (c.loop-i.i, omega arith, c.loop-i.invariant.past, free, refl)

pub unreachable-requires : goal.unreachable-requires
unreachable-requires c = never_full c.args.bits c.args.due.now (codes_of c.args.before.now) c.args.slots.now c.args.row.now.code c.loop-i.i c.requires.laid c.requires.bits.2 (omega arith) c.loop-i.invariant.past
