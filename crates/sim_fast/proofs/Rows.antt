-- Worked rows: one unit of 2 cells that is out a tenth of the time, over a load of 3 cells.
use Rattle.std.proofs.Common.{◌≡◌, ℕ, List, [], ◌∷◌, refl}
use Rattle.wasp_fixed.specs.Curves.{cell}
use Rattle.sim_fast.specs.Behind.{shifted_step}
use Rattle.sim_fast.specs.Turns.{lower_of, past, upper_of}
use Rattle.sim_fast.specs.declared.turn.Turn.{Turn}

three_cells : List ℕ
three_cells = 1000000000 ∷ 700000001 ∷ 400000009 ∷ []

one_unit : List Turn
one_unit = record { least = 1; full = 2; rate = 1000 } ∷ []

-- where the unit runs, the load past it is the third cell's; where it is out, the first cell's
first_cell : past (cell three_cells) one_unit 1 0 ≡ 460000008
unfolding three_cells one_unit
first_cell = refl

-- past the end the load where it runs is none, and the rest is rounded down
rounded_down : past (cell three_cells) one_unit 1 1 ≡ 70000000
unfolding three_cells one_unit
rounded_down = refl

-- the end is where it was before the unit: counted from the last loaded cell on, no curve gets longer
cut_end : past (cell three_cells) one_unit 1 3 ≡ 0
unfolding three_cells one_unit
cut_end = refl

-- both blocks are filled from the load before the unit
base_block : lower_of (cell three_cells) one_unit 0 ≡ 1000000000
unfolding three_cells one_unit
base_block = refl

peak_block : upper_of (cell three_cells) one_unit 0 ≡ 700000001
unfolding three_cells one_unit
peak_block = refl

-- a front that is one stays one as far as the unit's cells before its end
cut_front : shifted_step (cell (1000000000 ∷ 1000000000 ∷ 1000000000 ∷ 5 ∷ [])) 2 1000 0 ≡ 1000000000
cut_front = refl
