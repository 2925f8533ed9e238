-- The loading order: the blocks of all units in the order in which they are loaded.
--
-- The two blocks of a unit, their costs, and the two rules (all blocks by cost, or base blocks before
-- peak blocks) are those of the IAEA's Computer Manual Series No. 16, module MERSIM. That a peak block
-- costs no less than its unit's base block, and the order of blocks of equal cost, are this program's own.
use Rattle.std.specs.Prelude.{◌≡◌, ◌<◌, ℕ, ◌+◌, ◌-◌, ◌*◌, ◌≤◌, Bool, nat_lt, List, [], ◌∷◌, slice_index_or, slice_get, Some, if◌then◌else◌, max, IsPermutation, IsSortedByKey}
use Rattle.std.specs.List.{flat_map, enumerate_from}
use Rattle.std.specs.Ordering.{nat_cmp, is_lt}
use Rattle.std.specs.Cmp.Lexicographic.{slice_cmp}
use Rattle.plant_data.specs.Units.{no_unit, HasDistinctUnits}
use Rattle.plant_data.specs.declared.plant.Unit.{Unit as Machine}
use Rattle.plant_data.specs.declared.plant.Rule.{Rule}
use Rattle.plant_data.specs.declared.plant.Rule.TheVariants.{Merit, BaseFirst}
use Rattle.loading_order.specs.declared.blocks.Block.{Block}
use Rattle.loading_order.specs.declared.blocks.Kind.{Kind}
use Rattle.loading_order.specs.declared.blocks.Kind.TheVariants.{Base, Peak}

-- the ranges of what a unit's costs are made of
pub record IsPriced (u : Machine) : Type 0 where
  pub heat : u.heat ≤ 50000
  pub inc : u.inc ≤ 50000
  pub domestic : u.domestic ≤ 50000
  pub foreign : u.foreign ≤ 50000
  pub variable : u.variable ≤ 100000

-- what energy costs from nothing to the least load, in thousandths of a cent per MWh
abbrev pub base_cost : Machine → ℕ
base_cost u = u.heat * (u.domestic + u.foreign) + 1000 * u.variable

-- what energy costs from the least load to the full capacity, and no less than up to the least load
abbrev pub peak_cost : Machine → ℕ
peak_cost u = max (u.inc * (u.domestic + u.foreign) + 1000 * u.variable) (base_cost u)

-- the blocks of the unit at a place: its base block, and a peak block where the full capacity exceeds the least load
abbrev pub unit_blocks : ℕ → Machine → List Block
unit_blocks place u =
    record { unit = place; kind = Base; capacity = u.least; cost = base_cost u }
    ∷ (if nat_lt u.least u.full then record { unit = place; kind = Peak; capacity = u.full - u.least; cost = peak_cost u } ∷ [] else [])

-- the blocks of all units, unit by unit
abbrev pub blocks_of : List Machine → List Block
blocks_of units = flat_map (λ e. unit_blocks e.0 e.1) (enumerate_from 0 units)

-- base before peak
abbrev pub rank : Kind → ℕ
rank Base = 0
rank Peak = 1

-- all blocks are in one band, or the peak blocks in a later one
abbrev pub band : Rule → Kind → ℕ
band Merit kind = 0
band BaseFirst kind = rank kind

-- what blocks are sorted by
abbrev pub key : Rule → List Machine → Block → List ℕ
key rule units b =
    let u = slice_index_or units b.unit no_unit in
    band rule b.kind ∷ b.cost ∷ u.plant ∷ u.unit ∷ rank b.kind ∷ []

-- whether one block is loaded before another
abbrev pub precedes : Rule → List Machine → Block → Block → Bool
precedes rule units a b = is_lt (slice_cmp nat_cmp (key rule units a) (key rule units b))

-- a list that is in order, with x put in at its place
abbrev pub put_in : {X : Type 0} → (X → X → Bool) → X → List X → List X
put_in before x [] = x ∷ []
put_in before x (y ∷ ys) = if before y x then y ∷ put_in before x ys else x ∷ y ∷ ys

-- the elements of a list, put in order
abbrev pub in_order : {X : Type 0} → (X → X → Bool) → List X → List X
in_order before [] = []
in_order before (x ∷ xs) = put_in before x (in_order before xs)

-- the loading order
abbrev pub order_of : Rule → List Machine → List Block
order_of rule units = in_order (precedes rule units) (blocks_of units)

-- the loading order is the one list of all blocks, each once, that is sorted by the keys
abbrev pub OnlyOrder : Type 0
OnlyOrder = (rule : Rule) (units : List Machine) (blocks : List Block) → HasDistinctUnits units →
    IsPermutation (blocks_of units) blocks → IsSortedByKey (key rule units) (slice_cmp nat_cmp) blocks → blocks ≡ order_of rule units

-- each peak block stands after its unit's base block, and costs no less
abbrev pub PeaksFollow : List Block → Type 0
PeaksFollow blocks = (i j : ℕ) (b p : Block) → slice_get blocks i ≡ Some b → slice_get blocks j ≡ Some p →
    b.unit ≡ p.unit → b.kind ≡ Base → p.kind ≡ Peak → (i < j) × (b.cost ≤ p.cost)

-- each base block stands before each peak block
abbrev pub BasesFirst : List Block → Type 0
BasesFirst blocks = (i j : ℕ) (b p : Block) → slice_get blocks i ≡ Some b → slice_get blocks j ≡ Some p →
    b.kind ≡ Base → p.kind ≡ Peak → i < j
