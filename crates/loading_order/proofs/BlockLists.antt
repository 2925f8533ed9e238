-- Steps of the loop that writes the blocks of units.
use Rattle.std.proofs.Common.{◌≡◌, ℕ, zero-add, ◌+◌, ◌-◌, ◌<◌, ◌≤◌, ◌++◌, List, length, take, drop, get_or, sym, ap, ◌∙◌, rules, arith}
use Rattle.std.specs.List.{flat_map, enumerate_from}
use Rattle.std.proofs.lemmas.List.FromFn.{length-enumerate_from, get_or-enumerate_from}
use Rattle.std.proofs.lemmas.List.{take_all, drop-drop}
use Rattle.plant_data.proofs.UnitLists.{flat_map_take_more}
use Rattle.plant_data.specs.declared.plant.Unit.{Unit as Machine}
use Rattle.loading_order.specs.declared.blocks.Block.{Block}
use Rattle.loading_order.specs.LoadingOrder.{unit_blocks, blocks_of}

-- the blocks of the first units
abbrev pub blocks_below : List Machine → ℕ → List Block
blocks_below units n = flat_map (λ e. unit_blocks e.0 e.1) (take n (enumerate_from 0 units))

pub blocks_more : (units : List Machine) (n : ℕ) (d : Machine) → n < length units → blocks_below units (n + 1) ≡ blocks_below units n ++ unit_blocks n (get_or units n d)
blocks_more units n d h =
    let l : n < length (enumerate_from 0 units) = rw length-enumerate_from h in
    let at : get_or (enumerate_from 0 units) n (0, d) ≡ (n, get_or units n d) = get_or-enumerate_from 0 units n (0, d) h ∙ ap (λ k. (k, get_or units n d)) (zero-add n) in
    rw at at (flat_map_take_more (λ e. unit_blocks e.0 e.1) (enumerate_from 0 units) n (0, d) l)

pub blocks_all : (units : List Machine) (n : ℕ) → length units ≤ n → blocks_below units n ≡ blocks_of units
blocks_all units n h = ap (λ es. flat_map (λ e. unit_blocks e.0 e.1) es) (take_all n (enumerate_from 0 units) (rw length-enumerate_from h))

pub unit_blocks_few : (place : ℕ) (u : Machine) → length (unit_blocks place u) ≤ 2
unit_blocks_few place u = search rules

-- lists that agree from one place on agree from each later place on
pub drop_far : {X : Type 0} (n m : ℕ) (xs ys : List X) → n ≤ m → drop n xs ≡ drop n ys → drop m xs ≡ drop m ys
drop_far n m xs ys h e =
    let k : n + (m - n) ≡ m = omega arith in
    ap (λ j. drop j xs) (sym k) ∙ (sym (drop-drop (m - n) n xs) ∙ (ap (λ zs. drop (m - n) zs) e ∙ (drop-drop (m - n) n ys ∙ ap (λ j. drop j ys) k)))
