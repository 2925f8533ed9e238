use Rattle.deck_lines.specs.Deck.{body_of}
use Rattle.deck_check.proofs.Firsts.{set_from_0}
use Rattle.checked_deck.proofs.Sound.{sound_is, width_low}
use Rattle.checked_deck.proofs.cases.counts_in.Goals as goal

pub zero-config-requires-clause-low : goal.zero-config-requires-clause-low
zero-config-requires-clause-low c = rw c.width-width.ensures.value (width_low (body_of c.args.deck.now) (sound_is c.args.deck.now c.requires.typed))

pub loop-k-preserved : goal.loop-k-preserved
loop-k-preserved c = set_from_0 _ c.loop-k.config c.set.new.self c.width-width.result c.loop-k.k c.number_at.result c.loop-k-test.true c.loop-k.invariant c.set.ensures c.number_at.ensures
