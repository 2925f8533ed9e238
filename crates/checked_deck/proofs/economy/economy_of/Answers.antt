use Rattle.checked_deck.proofs.CostFacts.{economy_is}
use Rattle.checked_deck.proofs.economy.economy_of.Goals as goal

pub new-requires : goal.new-requires
new-requires c = economy_is c.args.deck.now _ c.requires c.in_ok-costs_of.ensures.value c.in_ok-costs_of.ensures.small
