use Rattle.std.proofs.Common.{◌≡◌, false, length}
use Rattle.line_reader.specs.Reading.{ahead}
use Rattle.wasp4.specs.Going.{HasTaken, effort_by}
use Rattle.wasp4.specs.Progress.{Advances}
use Rattle.wasp4.proofs.top.read_script.Given as goal

abbrev pub invariant-loop-number : goal.invariant-loop-number
invariant-loop-number g l =
    let E = g.E.SimEngine in
    let S = g.S.Source in
    let K = g.K.Sink in
    record {
      so_far : Advances l.fn.clerk.session.command (S.left l.fn.source) (ahead l.clerk.reader (S.left l.source)) (K.written l.fn.sink) (K.written l.sink) l.clerk.session
          (effort_by E.work l.fn.engines 0) (effort_by E.work l.engines l.clerk.session.memory.tally) l.number;
      taken : HasTaken l.clerk.session;
      same : length l.engines ≡ length l.fn.engines;
      source : S.ended l.source ≡ false;
      sink : K.failed l.sink ≡ false;
      read : S.faults l.source ≡ S.faults l.fn.source;
      write : K.faults l.sink ≡ K.faults l.fn.sink;
      sure : S.sure l.source ≡ S.sure l.fn.source;
      sure_room : K.sure_room l.sink ≡ K.sure_room l.fn.sink;
    }
