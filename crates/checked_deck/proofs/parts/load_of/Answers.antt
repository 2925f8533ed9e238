use Rattle.checked_deck.proofs.LoadFacts.{read_points}
use Rattle.checked_deck.proofs.parts.load_of.Goals as goal

pub new-requires-clause-low : goal.new-requires-clause-low
new-requires-clause-low c = (read_points c.args.deck.now c.args.t c.args.i c.number_at.result c.numbers-load.result.now c.in_ok-points.points.items c.requires.typed c.requires.low c.requires.high c.requires.period c.numbers-load.ensures.value c.number_at.ensures c.in_ok-points.ensures).low

pub new-requires-clause-high : goal.new-requires-clause-high
new-requires-clause-high c = (read_points c.args.deck.now c.args.t c.args.i c.number_at.result c.numbers-load.result.now c.in_ok-points.points.items c.requires.typed c.requires.low c.requires.high c.requires.period c.numbers-load.ensures.value c.number_at.ensures c.in_ok-points.ensures).high

pub new-requires-clause-range : goal.new-requires-clause-range
new-requires-clause-range c = (read_points c.args.deck.now c.args.t c.args.i c.number_at.result c.numbers-load.result.now c.in_ok-points.points.items c.requires.typed c.requires.low c.requires.high c.requires.period c.numbers-load.ensures.value c.number_at.ensures c.in_ok-points.ensures).range
