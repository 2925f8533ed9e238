-- Engines' rooms for the systems of asked keys. This program's own.
use Rattle.std.specs.Prelude.{◌≡◌, ◌⊎◌, ℕ, ◌≤◌, List, [], ◌∷◌, max, Option, None, Some, slice_get}
use Rattle.sim_engine.specs.Engine.{Room, widened}
use Rattle.year_system.specs.System.{System, cells, unit_limit}

abbrev pub size_of : (System → ℕ) → Option System → ℕ
size_of size None = 0
size_of size (Some s) = size s

-- the greatest size of the book's systems with some numbers, and of another number
abbrev pub greatest_of : (System → ℕ) → List System → ℕ → List ℕ → ℕ
greatest_of size book other [] = other
greatest_of size book other (id ∷ ids) = greatest_of size book (max other (size_of size (slice_get book id))) ids

-- the least room that holds another and these systems
abbrev pub widened_for : List System → List ℕ → Room → Room
widened_for book ids room = widened room (greatest_of cells book 0 ids) (greatest_of unit_limit book 0 ids)

-- each room is as before, or the least that holds it and so many cells and units
abbrev pub AreWidened : ℕ → ℕ → List Room → List Room → Type 0
AreWidened cells_room units_room [] [] = Unit {0}
AreWidened cells_room units_room (r ∷ rs) (s ∷ ss) = ((s ≡ r) ⊎ (s ≡ widened r cells_room units_room)) × AreWidened cells_room units_room rs ss
AreWidened cells_room units_room _ _ = ⊥

-- the same for these systems
abbrev pub AreWidenedFor : List System → List ℕ → List Room → List Room → Type 0
AreWidenedFor book ids before now = AreWidened (greatest_of cells book 0 ids) (greatest_of unit_limit book 0 ids) before now

-- room for a system, and for those with some numbers
pub record HasRoom (cells_room units_room : ℕ) (s : System) : Type 0 where
  pub cells : cells s ≤ cells_room
  pub units : unit_limit s ≤ units_room

abbrev pub HasRoomAt : ℕ → ℕ → List System → ℕ → Type 0
HasRoomAt cells_room units_room book id = (s : System) → slice_get book id ≡ Some s → HasRoom cells_room units_room s

-- an engine's room is as large
pub record IsRoomy (cells_room units_room : ℕ) (room : Room) : Type 0 where
  pub enough_cells : cells_room ≤ room.cells
  pub enough_units : units_room ≤ room.units
