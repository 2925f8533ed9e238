-- Blocks of one list of units that tie are one block.
use Rattle.std.proofs.Common.{◌≡◌, ℕ, ◌-◌, ◌+◌, ◌<◌, List, [], ◌∷◌, length, get_or, sym, ap, ◌∙◌, arith, true, false, cond, refl, suc, nat_lt, Ordering, is_lt, zero-add}
use Rattle.std.specs.List.{flat_map, enumerate_from, AllByRecursion}
use Rattle.std.specs.Ordering.{nat_cmp, ordering_reverse}
use Rattle.std.specs.declared.cmp.Ordering.TheVariants.{Less, Equal, Greater}
use Rattle.std.specs.Cmp.Lexicographic.{slice_cmp, nat_list_cmp_total}
use Rattle.std.specs.FinMap.{slice_cmp-IsAntisymmetric, nat_cmp-IsAntisymmetric}
use Rattle.plant_data.specs.declared.plant.Unit.{Unit as Machine}
use Rattle.plant_data.specs.declared.plant.Rule.{Rule}
use Rattle.wasp_fixed.proofs.Lists.{all_append}
use Rattle.loading_order.specs.declared.blocks.Block.{Block}
use Rattle.loading_order.specs.declared.blocks.Kind.{Kind}
use Rattle.loading_order.specs.declared.blocks.Kind.TheVariants.{Base, Peak}
use Rattle.plant_data.specs.Units.{no_unit, HasDistinctUnits}
use Rattle.loading_order.specs.LoadingOrder.{base_cost, peak_cost, unit_blocks, blocks_of, key, rank, precedes}

-- the block of a kind of the unit at a place
abbrev pub block_at : List Machine → ℕ → Kind → Block
block_at units i Base = record { unit = i; kind = Base; capacity = (get_or units i no_unit).least; cost = base_cost (get_or units i no_unit) }
block_at units i Peak = record { unit = i; kind = Peak; capacity = (get_or units i no_unit).full - (get_or units i no_unit).least; cost = peak_cost (get_or units i no_unit) }

-- a block is one of a list of units
pub record IsBlockOf (units : List Machine) (b : Block) : Type 0 where
  pub within : b.unit < length units
  pub is : b ≡ block_at units b.unit b.kind

blocks_of_one : (units : List Machine) (n : ℕ) (u : Machine) → n < length units → get_or units n no_unit ≡ u → AllByRecursion (IsBlockOf units) (unit_blocks n u)
blocks_of_one units n u h e =
    let base : IsBlockOf units (record { unit = n; kind = Base; capacity = u.least; cost = base_cost u }) =
    record { within = h; is = ap (λ v. record { unit = n; kind = Base; capacity = v.least; cost = base_cost v }) (sym e) } in
    let peak : IsBlockOf units (record { unit = n; kind = Peak; capacity = u.full - u.least; cost = peak_cost u }) =
    record { within = h; is = ap (λ v. record { unit = n; kind = Peak; capacity = v.full - v.least; cost = peak_cost v }) (sym e) } in
    (base, elim (nat_lt u.least u.full) as (λ v. AllByRecursion (IsBlockOf units) (cond v (record { unit = n; kind = Peak; capacity = u.full - u.least; cost = peak_cost u } ∷ []) [])) [ false ↦ tt | true ↦ (peak, tt) ])

blocks_from : (units rest : List Machine) (n : ℕ) → ((k : ℕ) → k < length rest → (n + k < length units) × (get_or units (n + k) no_unit ≡ get_or rest k no_unit)) → AllByRecursion (IsBlockOf units) (flat_map (λ e. unit_blocks e.0 e.1) (enumerate_from n rest))
blocks_from units [] n at = tt
blocks_from units (u ∷ rest) n at =
    let here = at 0 (omega arith) in
    all_append (IsBlockOf units) (unit_blocks n u) (flat_map (λ e. unit_blocks e.0 e.1) (enumerate_from (n + 1) rest))
    (blocks_of_one units n u (omega (arith, here.0)) (ap (λ k. get_or units k no_unit) (omega arith) ∙ here.1))
    (blocks_from units rest (n + 1) (λ k h. let more = at (suc k) (omega arith) in (omega (arith, more.0), ap (λ j. get_or units j no_unit) (omega arith) ∙ more.1)))

pub all_blocks_of : (units : List Machine) → AllByRecursion (IsBlockOf units) (blocks_of units)
all_blocks_of units = blocks_from units units 0 (λ k h. (omega arith, ap (λ j. get_or units j no_unit) (zero-add k)))

tied : (x y : List ℕ) (o p : Ordering) → o ≡ ordering_reverse p → is_lt o ≡ false → is_lt p ≡ false → o ≡ Equal
tied x y o Less e f g = cc
tied x y o Equal e f g = e
tied x y o Greater e f g = let h : is_lt o ≡ true = ap is_lt e in cc

pub tied_keys : (x y : List ℕ) → is_lt (slice_cmp nat_cmp x y) ≡ false → is_lt (slice_cmp nat_cmp y x) ≡ false → x ≡ y
tied_keys x y f g = slice_cmp-IsAntisymmetric nat_cmp-IsAntisymmetric x y (tied x y (slice_cmp nat_cmp x y) (slice_cmp nat_cmp y x) (nat_list_cmp_total.antisymm x y) f g)

same_kind : (a b : Kind) → rank a ≡ rank b → a ≡ b
same_kind Base Base e = refl
same_kind Base Peak e = absurd (omega (arith, e))
same_kind Peak Base e = absurd (omega (arith, e))
same_kind Peak Peak e = refl

pub same_block : (rule : Rule) (units : List Machine) → HasDistinctUnits units → (a b : Block) → IsBlockOf units a → IsBlockOf units b → precedes rule units a b ≡ false → precedes rule units b a ≡ false → a ≡ b
same_block rule units d a b f g p q =
    let e : key rule units a ≡ key rule units b = tied_keys (key rule units a) (key rule units b) p q in
    let place : a.unit ≡ b.unit = d a.unit b.unit f.within g.within (ap (λ k. get_or k 2 0) e) (ap (λ k. get_or k 3 0) e) in
    let kind : a.kind ≡ b.kind = same_kind a.kind b.kind (ap (λ k. get_or k 4 0) e) in
    f.is ∙ ((λ i. block_at units (place i) (kind i)) ∙ sym g.is)
