use Rattle.std.proofs.Common.{◌-◌, ◌&&◌, sym, ap, ◌∙◌, arith}
use Rattle.board_core.specs.Machine.{path_seen}
use Rattle.board_core.proofs.PathSeen.{path_step}
use Rattle.board_core.proofs.enabled.path_seen.Goals as goal

pub returns-then-not-saw_other : goal.returns-then-not-saw_other
returns-then-not-saw_other c =
    let h = path_step c.args.bits c.args.code c.home_of-home.result c.slots_of-slots.result c.loop-left.left c.args.seen.now c.saw_other.result c.home_of-home.ensures.value c.slots_of-slots.ensures.value (omega arith) c.saw_other.ensures in
    sym (c.loop-left.invariant.same ∙ h ∙ ap (λ b. b && path_seen c.args.bits c.args.code c.args.seen.now (c.loop-left.left - 1)) c.if-not-saw_other.true)

pub loop-left-preserved : goal.loop-left-preserved
loop-left-preserved c =
    let h = path_step c.args.bits c.args.code c.home_of-home.result c.slots_of-slots.result c.loop-left.left c.args.seen.now c.saw_other.result c.home_of-home.ensures.value c.slots_of-slots.ensures.value (omega arith) c.saw_other.ensures in
    record {
      few = omega arith;
      same = c.loop-left.invariant.same ∙ h ∙ ap (λ b. b && path_seen c.args.bits c.args.code c.args.seen.now (c.loop-left.left - 1)) c.if-not-saw_other.false;
    }
