-- What is kept for the beginnings of lists of units. This program's own; the contracts that other crates use do not
-- speak of it.
use Rattle.std.specs.Prelude.{◌≡◌, ℕ, ◌<◌, ◌≤◌, List, [], length, take, slice_index_or}
use Rattle.sim_fast.specs.Turns.{Stands}
use Rattle.sim_fast.specs.declared.turn.TheConstants.{MAX_UNITS}
use Rattle.sim_fast.specs.declared.turn.Turn.{Turn}

-- what contracts see of a kept beginning: its units, what stands behind them, and its rooms in cells and in units
pub record KeptView : Type 0 where
  pub turns : List Turn
  pub cells : List ℕ
  pub lower : List ℕ
  pub upper : List ℕ
  pub room : ℕ
  pub places : ℕ

-- three rooms hold so many
pub record HaveRooms (places one two three : ℕ) : Type 0 where
  pub first : places ≤ one
  pub second : places ≤ two
  pub third : places ≤ three

-- what is kept stands behind the first n units of a list
abbrev pub StandsKept : (ℕ → ℕ) → List Turn → ℕ → KeptView → Type 0
StandsKept base turns n k = Stands base turns n k.cells k.lower k.upper

-- it stands behind its own units
abbrev pub StandsBehind : (ℕ → ℕ) → KeptView → Type 0
StandsBehind base k = StandsKept base k.turns (length k.turns) k

-- that, if it has any
abbrev pub IsKept : (ℕ → ℕ) → KeptView → Type 0
IsKept base k = 0 < length k.turns → StandsBehind base k

-- what is kept past the last
abbrev pub no_kept : KeptView
no_kept = record { turns = []; cells = []; lower = []; upper = []; room = 0; places = 0 }

-- what is kept at a place
abbrev pub kept_at : List KeptView → ℕ → KeptView
kept_at kept i = slice_index_or kept i no_kept

-- all that is kept stands behind its own units on the same load, and has the same rooms
pub record IsShelf (base : ℕ → ℕ) (room : ℕ) (kept : List KeptView) : Type 0 where
  pub stands : (i : ℕ) → i < length kept → IsKept base (kept_at kept i)
  pub rooms : (i : ℕ) → i < length kept → (kept_at kept i).room ≡ room
  pub places : (i : ℕ) → i < length kept → (kept_at kept i).places ≡ MAX_UNITS

-- what is kept at a place begins a list, and has a unit
pub record IsStart (kept : List KeptView) (turns : List Turn) (i : ℕ) : Type 0 where
  pub within : i < length kept
  pub some : 0 < length (kept_at kept i).turns
  pub starts : (kept_at kept i).turns ≡ take (length (kept_at kept i).turns) turns
