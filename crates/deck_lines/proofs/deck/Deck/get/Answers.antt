use Rattle.deck_lines.proofs.Placed.{get_fits}
use Rattle.deck_lines.proofs.deck.Deck.get.Goals as goal

pub returns-clause-in_form : goal.returns-clause-in_form
returns-clause-in_form c = get_fits c.self.inside.statements.items _ _ c.self.invariant (rw c.deref.ensures.value at c.find_body.ensures)
