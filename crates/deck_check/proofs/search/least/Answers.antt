use Rattle.deck_lines.specs.Deck.{body_of}
use Rattle.deck_check.specs.Order.{row_of}
use Rattle.deck_check.proofs.Searches.{none_more_a}
use Rattle.deck_check.proofs.search.least.Goals as goal

pub loop-a-preserved : goal.loop-a-preserved
loop-a-preserved c = none_more_a (row_of c.args.row (body_of c.args.deck.now)) c.loop-a.a c.loop-a.invariant c.in-None.ensures
