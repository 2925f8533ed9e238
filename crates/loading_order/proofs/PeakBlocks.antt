-- Peak blocks stand after base blocks, and cost no less.
use Rattle.std.proofs.Common.{Some, ◌≡◌, ℕ, ◌<◌, ◌≤◌, List, [], ◌∷◌, get_or, sym, ap, ◌∙◌, arith, true, false, refl, Ordering, is_lt, inl, inr, subst}
use Rattle.std.specs.List.{All, slice_get}
use Rattle.std.specs.List.Sorted.{IsSortedBy}
use Rattle.std.specs.Ordering.{nat_cmp, ordering_then}
use Rattle.std.specs.Cmp.{nat_cmp_is}
use Rattle.std.specs.Cmp.Lexicographic.{slice_cmp, nat_list_cmp_total}
use Rattle.std.specs.declared.cmp.Ordering.TheVariants.{Less, Equal}
use Rattle.std.proofs.lemmas.Bool.{cases_lt}
use Rattle.std.proofs.lemmas.Option.{slice_get_within, get_or_from_slice_get}
use Rattle.std.proofs.lemmas.List.Sorted.{ranks_by, sorted_far}
use Rattle.plant_data.specs.declared.plant.Unit.{Unit as Machine}
use Rattle.plant_data.specs.declared.plant.Rule.{Rule}
use Rattle.plant_data.specs.declared.plant.Rule.TheVariants.{Merit, BaseFirst}
use Rattle.loading_order.specs.declared.blocks.Block.{Block}
use Rattle.loading_order.specs.declared.blocks.Kind.{Kind}
use Rattle.loading_order.specs.declared.blocks.Kind.TheVariants.{Base, Peak}
use Rattle.plant_data.specs.Units.{no_unit}
use Rattle.loading_order.specs.LoadingOrder.{base_cost, peak_cost, key, precedes, BasesFirst, PeaksFollow}
use Rattle.loading_order.proofs.SameBlock.{block_at, IsBlockOf}

same_number : (x : ℕ) → nat_cmp x x ≡ Equal
same_number x = sym (nat_cmp_is x x Equal refl)

-- the keys of one unit, behind the cost
unit_keys : (plant unit : ℕ) → is_lt (slice_cmp nat_cmp (plant ∷ unit ∷ 0 ∷ []) (plant ∷ unit ∷ 1 ∷ [])) ≡ true
unit_keys plant unit =
    ap (λ o. is_lt (ordering_then o (ordering_then (nat_cmp unit unit) Less))) (same_number plant)
    ∙ ap (λ o. is_lt (ordering_then o Less)) (same_number unit)

-- the keys of one unit in one band
cost_keys : (low high plant unit : ℕ) → low ≤ high → is_lt (slice_cmp nat_cmp (0 ∷ low ∷ plant ∷ unit ∷ 0 ∷ []) (0 ∷ high ∷ plant ∷ unit ∷ 1 ∷ [])) ≡ true
cost_keys low high plant unit h =
    let rest : Ordering = slice_cmp nat_cmp (plant ∷ unit ∷ 0 ∷ []) (plant ∷ unit ∷ 1 ∷ []) in
    elim (cases_lt low high) [
      | inl lt ↦ ap (λ o. is_lt (ordering_then o rest)) (sym (nat_cmp_is low high Less lt))
      | inr ge ↦ let e : low ≡ high = omega arith in ap (λ o. is_lt (ordering_then o rest)) (sym (nat_cmp_is low high Equal e)) ∙ unit_keys plant unit
    ]

one_unit : (rule : Rule) (units : List Machine) (i : ℕ) → precedes rule units (block_at units i Base) (block_at units i Peak) ≡ true
one_unit Merit units i = let u = get_or units i no_unit in cost_keys (base_cost u) (peak_cost u) u.plant u.unit (omega arith)
one_unit BaseFirst units i = refl

-- in a sorted list a block stands before each block that it precedes
stands_before : (rule : Rule) (units : List Machine) (blocks : List Block) → IsSortedBy (precedes rule units) blocks → (i j : ℕ) (b p : Block) →
    slice_get blocks i ≡ Some b → slice_get blocks j ≡ Some p → precedes rule units b p ≡ true → i < j
stands_before rule units blocks up i j b p at_i at_j first =
    let bi : get_or blocks i b ≡ b = get_or_from_slice_get blocks i b b at_i in
    let pj : get_or blocks j b ≡ p = get_or_from_slice_get blocks j p b at_j in
    elim (cases_lt i j) [
      | inl lt ↦ lt
      | inr ge ↦
          let late : precedes rule units (get_or blocks i b) (get_or blocks j b) ≡ false = sorted_far (precedes rule units) (ranks_by nat_list_cmp_total (key rule units)) blocks up j i b ge (slice_get_within blocks i b at_i) in
          let e : precedes rule units b p ≡ false = (λ k. precedes rule units (sym bi k) (sym pj k)) ∙ late in
          absurd (cc (first, e))
    ]

-- a block of a list is that of its unit and kind
block_is : (units : List Machine) (blocks : List Block) → All (IsBlockOf units) blocks → (i : ℕ) (b : Block) (kind : Kind) → slice_get blocks i ≡ Some b → b.kind ≡ kind → b ≡ block_at units b.unit kind
block_is units blocks all i b kind at e =
    let of : IsBlockOf units b = subst (IsBlockOf units) (get_or_from_slice_get blocks i b b at) (all i b (slice_get_within blocks i b at)) in
    of.is ∙ (λ k. block_at units b.unit (e k))

-- in a sorted list of the blocks of units each peak block stands after its unit's base block
pub peaks_follow : (rule : Rule) (units : List Machine) (blocks : List Block) → All (IsBlockOf units) blocks → IsSortedBy (precedes rule units) blocks → PeaksFollow blocks
peaks_follow rule units blocks all up = λ i j b p at_i at_j same kb kp.
    let base : b ≡ block_at units b.unit Base = block_is units blocks all i b Base at_i kb in
    let peak : p ≡ block_at units b.unit Peak = block_is units blocks all j p Peak at_j kp ∙ (λ k. block_at units (sym same k) Peak) in
    let u = get_or units b.unit no_unit in
    let low : b.cost ≡ base_cost u = λ k. (base k).cost in
    let high : p.cost ≡ peak_cost u = λ k. (peak k).cost in (
      stands_before rule units blocks up i j b p at_i at_j ((λ k. precedes rule units (base k) (peak k)) ∙ one_unit rule units b.unit),
      omega (arith, low, high),
    )

-- under the rule of base blocks first, each base block stands before each peak block
pub bases_first : (units : List Machine) (blocks : List Block) → All (IsBlockOf units) blocks → IsSortedBy (precedes BaseFirst units) blocks → BasesFirst blocks
bases_first units blocks all up = λ i j b p at_i at_j kb kp.
    let base : b ≡ block_at units b.unit Base = block_is units blocks all i b Base at_i kb in
    let peak : p ≡ block_at units p.unit Peak = block_is units blocks all j p Peak at_j kp in
    stands_before BaseFirst units blocks up i j b p at_i at_j (λ k. precedes BaseFirst units (base k) (peak k))
