use Rattle.std.proofs.Common.{◌+◌, arith}
use Rattle.deck_maker.proofs.Forms.{thermal_form}
use Rattle.deck_maker.proofs.making.add_candidate.Goals as goal

pub add_named-requires-clause-form : goal.add_named-requires-clause-form
add_named-requires-clause-form c =
    thermal_form c.args.k c.draw_machine-unit.result (600 + c.draw-price.result) c.requires.candidate.0 c.requires.candidate.1 c.draw_machine-unit.ensures.ranges (omega (arith, c.draw-price.ensures.below))
