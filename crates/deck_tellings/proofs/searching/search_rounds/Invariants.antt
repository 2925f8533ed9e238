use Rattle.std.proofs.Common.{◌≡◌, ◌+◌, ◌*◌, ◌≤◌, length}
use Rattle.deck_lines.specs.Deck.{body_of}
use Rattle.report_text.specs.Rounds.{IsWritable}
use Rattle.deck_tellings.specs.Inner.{GoesOn}
use Rattle.case_study.specs.Listings.{AreTunnels}
use Rattle.deck_tellings.specs.Rounds.{IsRoundUnder, RoundDemands}
use Rattle.deck_tellings.specs.Searching.{IsSoFar}
use Rattle.deck_tellings.specs.Learning.{Learns}
use Rattle.deck_tellings.proofs.searching.search_rounds.Given as goal

abbrev pub invariant-loop-k : goal.invariant-loop-k
invariant-loop-k g l =
    let d = body_of l.of.typed.now in
    let c = l.of.case in
    record {
      number : l.round.number ≡ l.k + 1;
      fit : AreTunnels d l.round.tunnels.items;
      under : IsRoundUnder l.k d c l.round.tunnels.items;
      writable : IsWritable l.round.last;
      so_far : IsSoFar d c l.k l.round l.initial.text l.text;
      learns : Learns {X = g.row.E.Denot} (Unit {0}) (RoundDemands d c l.k) d l.initial.memory l.memory g.E.SimEngine.work l.initial.engines l.engines 0;
      few : length l.memory.shelf.kept ≤ length l.initial.memory.shelf.kept + 15000 * l.k;
      some : 1 ≤ length l.engines;
      most : length l.engines ≤ 64;
      goes_on : GoesOn l.initial.text l.text;
    }
