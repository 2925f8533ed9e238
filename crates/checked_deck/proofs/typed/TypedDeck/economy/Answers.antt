use Rattle.deck_lines.specs.Deck.{body_of}
use Rattle.checked_deck.proofs.CostFacts.{economy_counts}
use Rattle.checked_deck.proofs.typed.TypedDeck.economy.Goals as goal

pub returns-clause-width : goal.returns-clause-width
returns-clause-width c =
    let value = rw c.self.view_is at c.economy_of.ensures.value in
    economy_counts (body_of c.args.self.now) c.economy_of.result value
