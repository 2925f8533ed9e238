use Rattle.deck_lines.proofs.FieldSteps.{fields_short}
use Rattle.deck_lines.proofs.fields.fields.Goals as goal

pub returns-in-None : goal.returns-in-None
returns-in-None c = rw c.at.ensures (fields_short c.loop-kind.out.items c.args.end c.args.kinds.now c.loop-kind.kind-index c.loop-kind.words _ c.loop-kind-test.true c.in-None.ensures.0 c.loop-kind.invariant)
