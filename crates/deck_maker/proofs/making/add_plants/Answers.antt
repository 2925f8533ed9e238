use Rattle.std.proofs.Common.{refl, ap, arith, rules}
use Rattle.deck_maker.specs.Stream.{Place}
use Rattle.deck_maker.specs.TrialDeck.{plant}
use Rattle.deck_maker.proofs.Growing.{none_yet, one_more}
use Rattle.deck_maker.proofs.making.add_plants.Goals as goal

pub loop-i-init : goal.loop-i-init
loop-i-init c = record {
  added = none_yet (plant c.args.stream.now.seed) c.args.deck.now;
  reach = omega arith;
  seed = refl;
  drawn = omega arith;
}

pub loop-i-preserved : goal.loop-i-preserved
loop-i-preserved c = record {
  added = one_more (plant c.args.stream.now.seed) _ c.loop-i.deck _ c.loop-i.i _ c.in_ok-add_plant.ensures.added c.loop-i.invariant.added (search rules);
  reach = omega (arith, c.in_ok-add_plant.ensures.reach);
  seed = cc;
  drawn = omega (arith, ap (λ (p : Place). p.drawn) c.add_plant.ensures.stream);
}
