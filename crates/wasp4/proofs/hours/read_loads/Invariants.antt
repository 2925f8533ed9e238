use Rattle.std.proofs.Common.{◌≡◌, false}
use Rattle.line_reader.specs.Reading.{ahead}
use Rattle.wasp4.specs.Hours.{AreLoads, TakesLoads}
use Rattle.wasp4.proofs.hours.read_loads.Given as goal

abbrev pub invariant-loop-before : goal.invariant-loop-before
invariant-loop-before g l =
    let S = g.S.Source in
    record {
      so_far : TakesLoads l.before (S.left l.fn.source) (ahead l.reader (S.left l.source)) l.loads.items;
      loads : AreLoads l.loads.items;
      source : S.ended l.source ≡ false;
      faults : S.faults l.source ≡ S.faults l.fn.source;
      sure : S.sure l.source ≡ S.sure l.fn.source;
    }
