use Rattle.deck_lines.proofs.Placed.{drop_keeps}
use Rattle.deck_lines.proofs.deck.Deck.drop_head.Goals as goal

pub invariant_of-self : goal.invariant_of-self
invariant_of-self c = drop_keeps _ _ _ c.remove.ensures c.self.invariant
