use Rattle.std.proofs.Common.{◌≡◌, false, length}
use Rattle.std.specs.Io.KnownBytes.{Consumes}
use Rattle.line_reader.specs.Lines.{IsUnbroken}
use Rattle.line_reader.specs.Reading.{ahead}
use Rattle.line_reader.proofs.lines.gather.Given as goal

abbrev pub invariant-loop : goal.invariant-loop
invariant-loop g l =
    let left = g.S.Source.left in
    let faults = g.S.Source.faults in
    record {
      text : Consumes (ahead l.fn.reader (left l.fn.source)) (ahead l.reader (left l.source)) l.line.items;
      unbroken : IsUnbroken l.line.items;
      count : length l.line.items ≡ l.counter;
      same : faults l.source ≡ faults l.fn.source;
      still : g.S.Source.ended l.source ≡ false;
      sure : g.S.Source.sure l.source ≡ g.S.Source.sure l.fn.source;
    }
