use Rattle.deck_lines.proofs.Placed.{place_here}
use Rattle.deck_lines.proofs.deck.find_place.Goals as goal

pub returns-then-is_same-clause-place : goal.returns-then-is_same-clause-place
returns-then-is_same-clause-place c = λ s e. place_here _ c.args.head s _ c.index-statements-i.result _ c.loop-i-test.true c.index-statements-i.is c.is_same.ensures.same c.if-is_same.true e (c.loop-i.invariant s e)
