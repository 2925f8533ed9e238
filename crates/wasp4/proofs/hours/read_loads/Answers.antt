use Rattle.std.proofs.Common.{◌≡◌, ◌∙◌, refl, arith}
use Rattle.wasp4.proofs.HourSteps.{advanced, over, stopped}
use Rattle.wasp4.proofs.hours.read_loads.Goals as goal

pub returns-in-Ended-clause-hours : goal.returns-in-Ended-clause-hours
returns-in-Ended-clause-hours g c =
    over c.loop-before.before _ _ c.loop-before.loads.items _ c.loop-before.invariant.so_far (rw c.in-Ended.is at c.in_ok-turn.ensures.turn)

pub returns-in-Malformed-clause-hours : goal.returns-in-Malformed-clause-hours
returns-in-Malformed-clause-hours g c =
    over c.loop-before.before _ _ c.loop-before.loads.items _ c.loop-before.invariant.so_far (rw c.in-Malformed.is at c.in_ok-turn.ensures.turn)

pub returns-in-Failed-clause-hours : goal.returns-in-Failed-clause-hours
returns-in-Failed-clause-hours g c =
    let part = rw c.in-Failed.is at c.in_ok-turn.ensures.turn in
    let none = rw c.in-Failed.is at c.in_ok-turn.ensures.nothing_kept in
    stopped c.loop-before.before _ _ _ _ c.loop-before.loads.items c.loop-before.invariant.so_far part.1 (none refl)

pub loop-before-preserved : goal.loop-before-preserved
loop-before-preserved g c =
    let line = rw c.in-Goes.is at c.in_ok-turn.ensures.turn in
    let goes = rw c.in-Goes.is at c.in_ok-turn.ensures.source in
    let cause = rw c.in-Goes.is at c.in_ok-turn.ensures.cause in
    record {
      so_far = advanced c.loop-before.before _ _ _ c.loop-before.loads.items _ c.loop-before.invariant.so_far line;
      loads = c.in_ok-turn.ensures.loads;
      source = goes refl;
      faults = cause.only (λ e. cc) ∙ c.loop-before.invariant.faults;
      sure = c.in_ok-turn.ensures.sure ∙ c.loop-before.invariant.sure;
    }

pub returns-clause-hours : goal.returns-clause-hours
returns-clause-hours g c =
    let last : c.loop-before.before ≡ 100000 = omega (arith, c.loop-before-test.false, c.loop-before.auto.before-end) in
    c.past_lines.ensures.hours _ c.loop-before.loads.items (rw last at c.loop-before.invariant.so_far)
