-- What stands behind the first units of a list: the load past them, and what each of them covers. A unit's two
-- blocks, in MERSIM's words, are loaded one after the other here (IAEA Computer Manual Series No. 16); a list of such
-- units is this program's own.
use Rattle.std.specs.Prelude.{◌≡◌, ℕ, ◌<◌, ◌≤◌, List, map, take, length, slice_index, slice_index_or}
use Rattle.wasp_fixed.specs.Curves.{area, cell}
use Rattle.wasp_fixed.specs.declared.numbers.TheConstants.{M}
use Rattle.convolution.specs.EquivalentLoad.{Part}
use Rattle.sim_fast.specs.Behind.{load_past}
use Rattle.sim_fast.specs.declared.turn.Turn.{Turn}

-- the turn past the last
abbrev pub no_turn : Turn
no_turn = record { least = 0; full = 0; rate = 0 }

-- the unit at a place of a list
abbrev pub turn_at : List Turn → ℕ → Turn
turn_at turns j = slice_index_or turns j no_turn

-- a unit with all its cells, as it is convolved
abbrev pub part_of : Turn → Part
part_of t = record { capacity = t.full; rate = t.rate }

-- the load past the first n units
abbrev pub past : (ℕ → ℕ) → List Turn → ℕ → ℕ → ℕ
past base turns n = load_past base (map part_of (take n turns))

-- what the base block of the unit at a place covers of the load past the units before it, in cells times ONE
abbrev pub lower_of : (ℕ → ℕ) → List Turn → ℕ → ℕ
lower_of base turns j = area (past base turns j) 0 (turn_at turns j).least

-- what its peak block covers of the same load, so that it does not meet its own unit's outage
abbrev pub upper_of : (ℕ → ℕ) → List Turn → ℕ → ℕ
upper_of base turns j = area (past base turns j) (turn_at turns j).least (turn_at turns j).full

-- a unit's base block is within its cells, which are within the grid, and its outage rate is at most one
pub record IsTurn (t : Turn) : Type 0 where
  pub order : t.least ≤ t.full
  pub cells : t.full ≤ 65536
  pub rate : t.rate ≤ M

-- a curve is the load past the first n units, and two rows are what each of these covers
pub record Stands (base : ℕ → ℕ) (turns : List Turn) (n : ℕ) (cells lower upper : List ℕ) : Type 0 where
  pub tail : (y : ℕ) → cell cells y ≡ past base turns n y
  pub lower_is : (j : ℕ) → j < n → slice_index lower j ≡ lower_of base turns j
  pub upper_is : (j : ℕ) → j < n → slice_index upper j ≡ upper_of base turns j

-- what contracts see of a workbench: the curve and its room in cells, the two rows and their room in units
pub record BenchView : Type 0 where
  pub cells : List ℕ
  pub lower : List ℕ
  pub upper : List ℕ
  pub room : ℕ
  pub places : ℕ

-- a bench stands behind the first n units of a list
abbrev pub StandsAt : (ℕ → ℕ) → List Turn → ℕ → BenchView → Type 0
StandsAt base turns n w = Stands base turns n w.cells w.lower w.upper

-- what stays of a bench: its rooms; and its curve gets no longer
pub record KeepsBench (a b : BenchView) : Type 0 where
  pub room : b.room ≡ a.room
  pub places : b.places ≡ a.places
  pub shorter : length b.cells ≤ length a.cells

-- what contracts see of a shelf: the load, and its room in cells; what is kept shows nowhere
pub record ShelfView : Type 0 where
  pub load : List ℕ
  pub room : ℕ
