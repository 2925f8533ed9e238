use Rattle.deck_lines.specs.Deck.{body_of}
use Rattle.checked_deck.proofs.Sound.{sound_is, width_low}
use Rattle.checked_deck.proofs.typed.TypedDeck.width.Goals as goal

pub returns-clause-low : goal.returns-clause-low
returns-clause-low c = rw c.width.ensures.value (width_low (body_of c.self.inside.deck) (sound_is c.self.inside.deck c.self.invariant))
