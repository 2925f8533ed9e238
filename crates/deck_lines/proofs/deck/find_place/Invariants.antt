use Rattle.std.proofs.Common.{◌≡◌, ◌++◌, take, drop}
use Rattle.deck_lines.specs.declared.statement.Statement.{Statement}
use Rattle.deck_lines.specs.Deck.{put}
use Rattle.deck_lines.proofs.deck.find_place.Given as goal

abbrev pub invariant-loop-i : goal.invariant-loop-i
invariant-loop-i l = (s : Statement) → s.head ≡ l.head → put l.statements s ≡ take l.i l.statements ++ put (drop l.i l.statements) s
