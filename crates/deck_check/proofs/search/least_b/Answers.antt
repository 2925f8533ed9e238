use Rattle.deck_lines.specs.Deck.{body_of}
use Rattle.deck_check.specs.Order.{row_of}
use Rattle.deck_check.proofs.Searches.{none_more_b}
use Rattle.deck_check.proofs.search.least_b.Goals as goal

pub loop-b-preserved : goal.loop-b-preserved
loop-b-preserved c = none_more_b (row_of c.args.row (body_of c.args.deck.now)) c.args.a c.loop-b.b c.loop-b.invariant c.in-None.ensures
