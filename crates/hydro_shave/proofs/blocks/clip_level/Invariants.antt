use Rattle.std.proofs.Common.{◌≡◌, ℕ, ◌+◌, ◌-◌, ◌*◌, ◌<◌, ◌≤◌, length}
use Rattle.wasp_fixed.specs.Curves.{area, cell}
use Rattle.wasp_fixed.specs.declared.numbers.TheConstants.{ONE}
use Rattle.hydro_shave.specs.Hydro.{shaved_energy}
use Rattle.hydro_shave.proofs.blocks.clip_level.Given as goal

abbrev pub invariant-loop-sum : goal.invariant-loop-sum
invariant-loop-sum l =
    record {
      sum_is : l.sum ≡ area (cell l.curve.cells) l.level (l.level + l.peak_mw);
      within : l.level ≤ length l.curve.cells;
      least : (lower : ℕ) → lower < l.level → l.energy * ONE < shaved_energy (cell l.curve.cells) l.peak_mw l.hours lower;
    }

abbrev pub decreases-loop-sum : goal.decreases-loop-sum
decreases-loop-sum l = length l.curve.cells - l.level
