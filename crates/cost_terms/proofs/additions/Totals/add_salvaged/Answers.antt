use Rattle.cost_terms.specs.Cost.{added_units}
use Rattle.cost_terms.proofs.Salvage.{item_le}
use Rattle.cost_terms.proofs.additions.Totals.add_salvaged.Goals as goal

pub add_item-requires-clause-regained : goal.add_item-requires-clause-regained
add_item-requires-clause-regained c = rw c.requires.salvage (item_le c.args.horizon.now (added_units c.args.plant.now c.args.count))
