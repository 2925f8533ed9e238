use Rattle.std.proofs.Common.{take, All}
use Rattle.deck_lines.specs.Deck.{body_of}
use Rattle.deck_check.specs.DeckFault.{table}
use Rattle.deck_check.specs.FaultTable.{IsUnmet}
use Rattle.deck_check.proofs.search.first_fault.Given as goal

abbrev pub invariant-loop-place : goal.invariant-loop-place
invariant-loop-place l = All IsUnmet (take l.place (table (body_of l.deck)))
