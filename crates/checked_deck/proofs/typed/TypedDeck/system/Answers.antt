use Rattle.deck_lines.specs.Deck.{body_of}
use Rattle.checked_deck.proofs.SystemFacts.{system_counts}
use Rattle.checked_deck.proofs.typed.TypedDeck.system.Goals as goal

pub returns-clause-width : goal.returns-clause-width
returns-clause-width c =
    let value = rw c.self.view_is at c.system_of.ensures.value in
    system_counts (body_of c.args.self.now) c.args.year c.system_of.result value
