use Rattle.checked_deck.proofs.SystemFacts.{system_from}
use Rattle.checked_deck.proofs.parts.system_of.Goals as goal

pub new-requires : goal.new-requires
new-requires c =
    system_from c.args.deck.now c.args.t c.requires.typed c.requires.low c.requires.high c.rule_of.ensures c.in_ok-loads_of.ensures c.in_ok-weights_of.ensures c.in_ok-existing_of.ensures c.in_ok-thermal_of.ensures c.in_ok-groups_of.ensures c.step.ensures.value
