use Rattle.checked_deck.specs.Systems.{water_in}
use Rattle.deck_check.proofs.Firsts.{push_from_0}
use Rattle.checked_deck.proofs.parts.push_conditions.Goals as goal

pub loop-i-preserved : goal.loop-i-preserved
loop-i-preserved c =
    push_from_0 (water_in c.numbers-water.result.now) c.args.table.now.items c.loop-i.table.items c.push.new.self.items c.loop-i.i _ c.in_ok-push.ensures.items c.loop-i.invariant
    (λ i. record { base = c.number_at.ensures i; peak = c.number_at-in-loop-i.ensures i; energy = c.number_at-in-loop-i-2.ensures i })
