use Rattle.std.proofs.Common.{rules, get_or}
use Rattle.std.proofs.lemmas.Fn.{always_returns_same}
use Rattle.plant_data.specs.Units.{no_unit}
use Rattle.loading_order.specs.Maintenance.{turn_key}
use Rattle.loading_order.proofs.maintain.sort_turns.Goals as goal

pub returns-clause-sorted : goal.returns-clause-sorted
returns-clause-sorted c = c.sort_unstable_by_key.ensures.sorted (λ i. turn_key (get_or c.args.units.now i no_unit)) (always_returns_same _ _ _ (λ a r g h. search rules))
