use Rattle.std.proofs.Common.{◌+◌, ◌*◌, ◌≤◌, length}
use Rattle.deck_lines.specs.Deck.{body_of}
use Rattle.deck_tellings.specs.Inner.{GoesOn}
use Rattle.deck_tellings.specs.Rounds.{AreCasesSearched}
use Rattle.deck_tellings.specs.Searching.{CasesDemand, IsSaid}
use Rattle.deck_tellings.specs.Learning.{Learns}
use Rattle.deck_tellings.specs.Told.{plain}
use Rattle.deck_tellings.proofs.searching.search_cases.Given as goal

abbrev pub invariant-loop-c : goal.invariant-loop-c
invariant-loop-c g l =
    let d = body_of l.typed in
    record {
      told : IsSaid (λ t. AreCasesSearched d l.c (plain t)) l.initial.text l.text;
      learns : Learns {X = g.row.E.Denot} (Unit {0}) (CasesDemand d l.c) d l.initial.memory l.memory g.E.SimEngine.work l.initial.engines l.engines 0;
      few : length l.memory.shelf.kept ≤ length l.initial.memory.shelf.kept + 300000 * l.c;
      some : 1 ≤ length l.engines;
      most : length l.engines ≤ 64;
      goes_on : GoesOn l.initial.text l.text;
    }
