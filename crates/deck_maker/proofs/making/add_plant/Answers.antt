use Rattle.deck_maker.proofs.Forms.{plant_form}
use Rattle.deck_maker.proofs.making.add_plant.Goals as goal

pub add_named-requires-clause-form : goal.add_named-requires-clause-form
add_named-requires-clause-form c = plant_form c.args.p c.draw_machine-unit.result c.requires.plant.0 c.requires.plant.1 c.draw_machine-unit.ensures.ranges
