use Rattle.deck_lines.proofs.Placed.{set_keeps}
use Rattle.deck_lines.proofs.deck.Deck.set.Goals as goal

pub invariant_of-self : goal.invariant_of-self
invariant_of-self c = set_keeps c.put.result _ _ c.args.statement c.put.ensures.ok c.put.ensures.err c.self.invariant c.requires
