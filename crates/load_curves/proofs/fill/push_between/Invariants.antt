use Rattle.std.proofs.Common.{◌≡◌, ℕ, ◌*◌, ◌<◌, ◌≤◌, length}
use Rattle.wasp_fixed.specs.Curves.{cell}
use Rattle.load_curves.specs.LoadCurve.{between}
use Rattle.load_curves.proofs.fill.push_between.Given as goal

abbrev pub invariant-loop-x : goal.invariant-loop-x
invariant-loop-x l =
    record {
      room : l.curve.room ≡ l.initial.curve.room;
      len : length l.curve.cells ≡ l.x;
      kept : (k : ℕ) → k < length l.initial.curve.cells → cell l.curve.cells k ≡ cell l.initial.curve.cells k;
      value : (k : ℕ) → length l.initial.curve.cells ≤ k → k < length l.curve.cells → cell l.curve.cells k ≡ between l.low l.high l.peak (k * l.step * 10000);
    }
