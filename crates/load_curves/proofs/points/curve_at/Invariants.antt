use Rattle.std.proofs.Common.{◌*◌, ◌-◌, ◌≤◌}
use Rattle.plant_data.specs.Shapes.{load_at}
use Rattle.load_curves.proofs.points.curve_at.Given as goal

abbrev pub invariant-loop-i : goal.invariant-loop-i
invariant-loop-i l = load_at l.points (l.i - 1) * l.peak ≤ l.load
