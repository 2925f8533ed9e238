use Rattle.std.proofs.Common.{◌≡◌, drop}
use Rattle.deck_lines.specs.Statements.{fields_onto}
use Rattle.deck_lines.proofs.fields.fields.Given as goal

abbrev pub invariant-loop-kind : goal.invariant-loop-kind
invariant-loop-kind l = fields_onto l.out.items l.end (drop l.kind-index l.kinds) l.words ≡ fields_onto l.fn.out.items l.end l.kinds l.fn.words
