use Rattle.std.proofs.Common.{◌≤◌, ◌*◌, length}
use Rattle.deck_check.specs.DeckFault.{HasNoFault}
use Rattle.deck_lines.specs.Deck.{body_of}
use Rattle.deck_tellings.specs.Inner.{GoesOn}
use Rattle.deck_tellings.specs.Ranks.{AreCasesRanked, AsksUpTo, TellsPlain}
use Rattle.deck_tellings.specs.Learning.{GainsFew, Learns}
use Rattle.deck_tellings.proofs.best.rank_typed.Given as goal

abbrev pub invariant-loop-c : goal.invariant-loop-c
invariant-loop-c g l =
    let d = body_of l.asked.typed.now in
    record {
      told : TellsPlain (AreCasesRanked d l.asked.plans l.c) l.initial.text l.text;
      learns : Learns {X = g.row.E.Denot} (HasNoFault d) (AsksUpTo d l.c) d l.initial.memory l.memory g.E.SimEngine.work l.initial.engines l.engines 0;
      few : GainsFew (15000 * l.c) l.initial.memory l.memory;
      some : 1 ≤ length l.engines;
      most : length l.engines ≤ 64;
      goes_on : GoesOn l.initial.text l.text;
    }
