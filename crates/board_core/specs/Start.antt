-- The store at its start: the kept rows, each at the first free slot from the home of its code.
use Rattle.std.specs.Prelude.{◌≡◌, ◌≢◌, ℕ, ◌+◌, ◌%◌, ◌^◌, ◌<◌, true, false, List, [], ◌∷◌, replicate, slice_set}
use Rattle.board_core.specs.declared.slot.Slot.{Slot}
use Rattle.board_core.specs.declared.row.KeptRow.{KeptRow}
use Rattle.board_core.specs.Rows.{words_of, home_slot, codes_of}
use Rattle.board_core.specs.Events.{newcomer}
use Rattle.board_core.specs.Machine.{Machine, slot_of}

abbrev pub free_slots : ℕ → List Slot
free_slots bits = replicate (2 ^ bits) (record { code = 0; filled = false; words = replicate 11 0 })

abbrev pub filled_slot : KeptRow → Slot
filled_slot r = record { code = r.code; filled = true; words = words_of r.words }

-- the code in the slot at this distance from the home of x
abbrev pub code_from : ℕ → List Slot → ℕ → ℕ → ℕ
code_from bits slots x i = (slot_of slots ((home_slot bits x + i) % 2 ^ bits)).code

-- the row is placed at the first free slot from the home of its code
abbrev pub LaysRow : ℕ → List Slot → KeptRow → List Slot → Type 0
LaysRow bits before r after =
    (i : ℕ) × (i < 2 ^ bits) × ((j : ℕ) → j < i → code_from bits before r.code j ≢ 0) × (code_from bits before r.code i ≡ 0)
    × (after ≡ slice_set before ((home_slot bits r.code + i) % 2 ^ bits) (filled_slot r))

-- the rows are placed in their order
abbrev pub LaysRows : ℕ → List Slot → List KeptRow → List Slot → Type 0
LaysRows bits before [] after = after ≡ before
LaysRows bits before (r ∷ rs) after = (mid : List Slot) × LaysRow bits before r mid × LaysRows bits mid rs after

-- the machine at its start: the kept rows are placed and filled, and the one actor has the whole share and knows nothing
pub record IsStart (bits : ℕ) (kept due : List KeptRow) (m : Machine) : Type 0 where
  pub size : m.bits ≡ bits
  pub placed : LaysRows bits (free_slots bits) kept m.slots
  pub alone : m.actors ≡ newcomer ∷ []
  pub due_rows : m.rows ≡ due
  pub codes : m.start ≡ codes_of kept
