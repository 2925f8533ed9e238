-- What hydro plants take from a load duration curve, as MERSIM has it (IAEA Computer Manual Series
-- No. 16): a base block runs all the time, and a peak block shaves the curve where its energy lasts.
-- Blocks are in cells; hours are those of the period times the MW of a cell. That the level is a whole
-- cell, and the least one, is this program's own.
use Rattle.std.specs.Prelude.{◌≡◌, ℕ, zero, suc, ◌+◌, ◌*◌, ◌<◌, ◌≤◌, nat_le, nat_lt, if◌then◌else◌, List, length}
use Rattle.wasp_fixed.specs.Curves.{area, cell}
use Rattle.wasp_fixed.specs.declared.numbers.TheConstants.{ONE}

-- the curve above a base block
abbrev pub shifted : (ℕ → ℕ) → ℕ → ℕ → ℕ
shifted curve base x = curve (x + base)

-- the energy under the curve that a peak block takes from a level on, in MWh times ONE
abbrev pub shaved_energy : (ℕ → ℕ) → ℕ → ℕ → ℕ → ℕ
shaved_energy curve peak hours level = area curve level (level + peak) * hours

-- the least level from which a peak block takes no more than its energy, in MWh
pub record IsClipLevel (curve : ℕ → ℕ) (peak energy hours level : ℕ) : Type 0 where
  pub enough : shaved_energy curve peak hours level ≤ energy * ONE
  pub least : (lower : ℕ) → lower < level → energy * ONE < shaved_energy curve peak hours lower

-- the curve that a peak block leaves: as before below the level, and from there on what was above the block
abbrev pub shaved : (ℕ → ℕ) → ℕ → ℕ → ℕ → ℕ
shaved curve peak level x = if nat_lt x level then curve x else curve (x + peak)

-- the least level from `from` on that is enough, among the next n, or else the one after them
abbrev pub first_enough : (ℕ → ℕ) → ℕ → ℕ → ℕ → ℕ → ℕ → ℕ
first_enough curve peak energy hours from zero = from
first_enough curve peak energy hours from (suc n) =
    if nat_le (shaved_energy curve peak hours from) (energy * ONE) then from else first_enough curve peak energy hours (from + 1) n

-- the clip level as a number, of a curve that is 0 from `top` on
abbrev pub clip_level_of : (ℕ → ℕ) → ℕ → ℕ → ℕ → ℕ → ℕ
clip_level_of curve peak energy hours top = first_enough curve peak energy hours 0 top

-- of a list of cells it is the least level from which the block takes no more than its energy
abbrev pub ClipLevelsAreLeast : Type 0
ClipLevelsAreLeast = (cells : List ℕ) (peak energy hours top : ℕ) → length cells ≤ top → IsClipLevel (cell cells) peak energy hours (clip_level_of (cell cells) peak energy hours top)

-- a curve has one clip level
abbrev pub ClipLevelsAreOne : Type 0
ClipLevelsAreOne = (curve : ℕ → ℕ) (peak energy hours one other : ℕ) → IsClipLevel curve peak energy hours one → IsClipLevel curve peak energy hours other → one ≡ other
