use Rattle.std.proofs.Common.{◌≡◌, length}
use Rattle.deck_lines.specs.Deck.{body_of}
use Rattle.deck_tellings.specs.Inner.{AreTablesFrom}
use Rattle.deck_tellings.proofs.plan.tables_of.Given as goal

abbrev pub invariant-loop-c : goal.invariant-loop-c
invariant-loop-c l =
    record {
      many : length l.tables.items ≡ l.c;
      tables : AreTablesFrom (body_of l.plan.deck) 1 l.tables.items;
    }
