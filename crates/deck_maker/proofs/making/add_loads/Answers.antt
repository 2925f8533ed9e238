use Rattle.std.proofs.Common.{refl, ap, arith, rules}
use Rattle.deck_maker.specs.Stream.{Place}
use Rattle.deck_maker.specs.TrialDeck.{load}
use Rattle.deck_maker.proofs.Growing.{none_yet, one_more}
use Rattle.deck_maker.proofs.making.add_loads.Goals as goal

pub loop-i-init : goal.loop-i-init
loop-i-init c = record {
  added = none_yet (load c.args.stream.now.seed c.args.candidates) c.args.deck.now;
  reach = omega arith;
  seed = refl;
  drawn = omega arith;
}

pub loop-i-preserved : goal.loop-i-preserved
loop-i-preserved c = record {
  added = one_more (load c.args.stream.now.seed c.args.candidates) _ c.loop-i.deck _ c.loop-i.i _ c.in_ok-add_load.ensures.added c.loop-i.invariant.added (search rules);
  reach = omega (arith, c.in_ok-add_load.ensures.reach);
  seed = cc;
  drawn = omega (arith, ap (λ (p : Place). p.drawn) c.add_load.ensures.stream);
}
