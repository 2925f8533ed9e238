-- Blocks whose units are loaded one after the other. This program's own.
use Rattle.std.specs.Prelude.{◌≡◌, ℕ, ◌+◌, ◌-◌, ◌*◌, ◌/◌, ◌<◌, false, List, All, length, map, take, slice_index, slice_index_or, if◌then◌else◌}
use Rattle.std.specs.List.{AllByRecursion}
use Rattle.wasp_fixed.specs.declared.numbers.TheConstants.{M, ONE}
use Rattle.loading_order.specs.declared.blocks.Block.{Block}
use Rattle.sim_engine.specs.Loading.{Dispatch, cells_in, loaded, no_block, others}
use Rattle.sim_fast.specs.Behind.{cells_of}
use Rattle.sim_fast.specs.Turns.{IsTurn, part_of, turn_at}
use Rattle.sim_fast.specs.declared.turn.Turn.{Turn}
use Rattle.sim_engine.specs.declared.lay.Mark.{Mark}
use Rattle.sim_engine.specs.declared.lay.Span.{Span}

-- no block is of the unit
abbrev pub IsNew : ℕ → List Block → Type 0
IsNew unit blocks = AllByRecursion (λ b. b.unit ≡ unit → ⊥) blocks

abbrev pub block_at : List Block → ℕ → Block
block_at blocks k = slice_index_or blocks k no_block

-- the cells of a unit's turn below a block, and up to its end
abbrev pub below : Mark → Turn → ℕ
below m t = if m.upper then t.least else 0

abbrev pub up_to : Mark → Turn → ℕ
up_to m t = if m.upper then t.full else t.least

-- the load that a block meets is that past the turns before its unit's, and the block stands there where its mark says
pub record IsPlaced (step : ℕ) (available : List ℕ) (blocks : List Block) (turns : List Turn) (k : ℕ) (m : Mark) : Type 0 where
  pub within : m.turn < length turns
  pub others_are : loaded step available (others (block_at blocks k).unit (take k blocks)) ≡ map part_of (take m.turn turns)
  pub from_is : cells_in step (take k blocks) ≡ cells_of (map part_of (take m.turn turns)) + below m (turn_at turns m.turn)
  pub to_is : below m (turn_at turns m.turn) + (block_at blocks k).capacity / step ≡ up_to m (turn_at turns m.turn)

abbrev pub no_mark : Mark
no_mark = record { turn = 0; upper = false }

abbrev pub mark_at : List Mark → ℕ → Mark
mark_at marks k = slice_index_or marks k no_mark

-- the first k blocks are the turns
pub record IsLaid (step : ℕ) (available : List ℕ) (blocks : List Block) (k : ℕ) (turns : List Turn) (marks : List Mark) : Type 0 where
  pub whole : loaded step available (take k blocks) ≡ map part_of turns
  pub cells : cells_in step (take k blocks) ≡ cells_of (map part_of turns)
  pub places : (i : ℕ) → i < k → IsPlaced step available blocks turns i (mark_at marks i)
  pub sound : All IsTurn turns

-- the turn of a unit with its outage rate in a period
abbrev pub turn_of : List ℕ → Span → Turn
turn_of available s = record { least = s.least; full = s.full; rate = M - slice_index available s.unit }

-- the first k blocks are the units, whatever their availabilities
abbrev pub IsLaidOut : ℕ → List Block → ℕ → List Span → List Mark → Type 0
IsLaidOut step blocks k spans marks = (available : List ℕ) → IsLaid step available blocks k (map (turn_of available) spans) marks

-- what contracts see of blocks that are laid: the MW of a cell, 0 where none are, the blocks, their units, and where
-- each block stands
pub record LayingView : Type 0 where
  pub step : ℕ
  pub blocks : List Block
  pub spans : List Span
  pub marks : List Mark

-- what a block covers, from what its unit's base block and its peak block cover
abbrev pub covered : Mark → List ℕ → List ℕ → ℕ
covered m lower upper = if m.upper then slice_index upper m.turn else slice_index lower m.turn

-- the energy of a block in MWh
abbrev pub energy_at : ℕ → ℕ → List Block → List ℕ → List Mark → List ℕ → List ℕ → ℕ → ℕ
energy_at step hours blocks available marks lower upper k =
    slice_index available (block_at blocks k).unit * covered (mark_at marks k) lower upper * (step * hours) / (M * ONE)

-- a period with a load
abbrev pub period_with : (ℕ → ℕ) → List Block → List ℕ → ℕ → ℕ → ℕ → Dispatch
period_with base blocks available top step hours =
    record { order = blocks; available = available; load = base; top = top; step = step; hours = hours }
