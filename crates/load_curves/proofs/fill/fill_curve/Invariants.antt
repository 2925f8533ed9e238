use Rattle.std.proofs.Common.{◌≡◌, ℕ, ◌+◌, ◌-◌, ◌*◌, ◌/◌, ◌<◌, length}
use Rattle.wasp_fixed.specs.Curves.{cell}
use Rattle.plant_data.specs.Shapes.{load_at}
use Rattle.load_curves.specs.LoadCurve.{on_points}
use Rattle.load_curves.proofs.fill.fill_curve.Given as goal

abbrev pub invariant-loop-i : goal.invariant-loop-i
invariant-loop-i l =
    record {
      room : l.curve.room ≡ l.fn.curve.room;
      len : length l.curve.cells ≡ (load_at l.points (l.i - 1) * l.peak + l.step * 10000 - 1) / (l.step * 10000);
      value : (k : ℕ) → k < length l.curve.cells → cell l.curve.cells k ≡ on_points l.points l.peak (k * l.step * 10000);
    }
