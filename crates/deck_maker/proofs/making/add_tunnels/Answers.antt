use Rattle.std.proofs.Common.{arith, rules}
use Rattle.deck_maker.specs.TrialDeck.{tunnel}
use Rattle.deck_maker.proofs.Growing.{none_yet, one_more}
use Rattle.deck_maker.proofs.making.add_tunnels.Goals as goal

pub loop-i-init : goal.loop-i-init
loop-i-init c = record {
  added = none_yet (tunnel c.args.candidates) c.args.deck.now;
  reach = omega arith;
}

pub loop-i-preserved : goal.loop-i-preserved
loop-i-preserved c = record {
  added = one_more (tunnel c.args.candidates) _ c.loop-i.deck _ c.loop-i.i _ c.in_ok-add_tunnel.ensures.added c.loop-i.invariant.added (search rules);
  reach = omega (arith, c.in_ok-add_tunnel.ensures.reach);
}
