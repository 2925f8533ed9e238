use Rattle.checked_deck.proofs.Sound.{typed_copy}
use Rattle.checked_deck.proofs.typed.TypedDeck.of.Goals as goal

pub invariant_of-result : goal.invariant_of-result
invariant_of-result c = typed_copy c.in-Ok.deck c.args.deck.now c.in-Ok.ensures c.get-years.ensures.valid c.requires

pub returns-in-Ok-clause-faultless : goal.returns-in-Ok-clause-faultless
returns-in-Ok-clause-faultless c = typed_copy c.in-Ok.deck c.args.deck.now c.in-Ok.ensures c.get-years.ensures.valid c.requires
