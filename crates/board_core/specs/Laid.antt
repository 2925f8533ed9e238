-- The slots while the kept rows are placed.
use Rattle.std.specs.Prelude.{◌≡◌, ℕ, ◌^◌, ◌<◌, List, [], ◌∷◌, length}
use Rattle.board_core.specs.declared.slot.Slot.{Slot}
use Rattle.board_core.specs.declared.row.KeptRow.{KeptRow}
use Rattle.board_core.specs.Rows.{terms}
use Rattle.board_core.specs.Sound.{IsSound}
use Rattle.board_core.specs.Events.{newcomer}
use Rattle.board_core.specs.Machine.{slot_of, cells_in}

-- the slots have the rows of these codes, and are sound beside the one actor
pub record IsLaid (bits : ℕ) (due : List KeptRow) (start : List ℕ) (slots : List Slot) : Type 0 where
  pub count : length slots ≡ 2 ^ bits
  pub words : (s : ℕ) → s < length slots → length (slot_of slots s).words ≡ 11
  pub sound : IsSound (terms bits due start) (cells_in slots) (newcomer ∷ [])
