use Rattle.std.proofs.Common.{◌≡◌, drop}
use Rattle.deck_lines.specs.Deck.{body_of}
use Rattle.deck_lines.proofs.deck.find_body.Given as goal

abbrev pub invariant-loop-statement : goal.invariant-loop-statement
invariant-loop-statement l = body_of (drop l.statement-index l.statements) l.head ≡ body_of l.statements l.head
