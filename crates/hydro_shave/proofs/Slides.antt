-- The sum of as many cells, one place on, and how large such a sum is.
use Rattle.std.proofs.Common.{◌≡◌, ℕ, ◌+◌, ◌-◌, ◌*◌, ◌^◌, ◌<◌, ◌≤◌, List, length, take, map, sum, suc, zero, min, arith, refl, sym, ◌∙◌, ap, inl, inr}
use Rattle.std.specs.List.{range_with_len}
use Rattle.std.proofs.Math.Nat.{mul-le-mul, mul-le-mul_right}
use Rattle.std.proofs.lemmas.Bool.{cases_lt}
use Rattle.std.proofs.lemmas.List.{take_all}
use Rattle.std.proofs.lemmas.List.Sums.{sum-map, sum_by-cons}
use Rattle.wasp_fixed.specs.Curves.{area, cell, IsAtMostOne}
use Rattle.wasp_fixed.specs.declared.numbers.TheConstants.{ONE}
use Rattle.wasp_fixed.proofs.Areas.{area-clipped, area-more}

-- the first value apart
area-first : (curve : ℕ → ℕ) (from to : ℕ) → from < to → area curve from to ≡ curve from + area curve (from + 1) to
area-first curve from to lt =
    let e : to - from ≡ suc (to - (from + 1)) = omega arith in
    let rest = range_with_len (from + 1) (to - (from + 1)) in
    let s : sum (map curve (range_with_len from (suc (to - (from + 1))))) ≡ curve from + sum (map curve rest) =
    sum-map curve (range_with_len from (suc (to - (from + 1)))) ∙ (sum_by-cons curve from rest ∙ ap (λ n. curve from + n) (sym (sum-map curve rest))) in
    rw e s

-- values of at most one
area-within : (curve : ℕ → ℕ) (from n : ℕ) → IsAtMostOne curve → area curve from (from + n) ≤ n * ONE
area-within curve from zero most =
    let e : from + zero - from ≡ 0 = omega arith in
    rw e (omega arith)
area-within curve from (suc n) most =
    let e : from + suc n ≡ from + n + 1 = omega arith in
    let top : curve (from + n) ≤ ONE = most (from + n) in
    rw e (omega (arith, area-more curve from (from + n) (omega arith), area-within curve from n most, top))

-- a sum may stop where the cells end
area-ends : (cells : List ℕ) (from to : ℕ) → from ≤ to → area (cell cells) (min from (min to (length cells))) (min to (length cells)) ≡ area (cell cells) from to
area-ends cells from to le =
    let all : take (length cells) cells ≡ cells = take_all (length cells) cells (omega arith) in
    rw all at (area-clipped cells (length cells) from to le)

pub area-from_start : (cells : List ℕ) (to : ℕ) → area (cell cells) 0 (min to (length cells)) ≡ area (cell cells) 0 (0 + to)
area-from_start cells to =
    let none : min 0 (min to (length cells)) ≡ 0 = omega arith in
    let e : 0 + to ≡ to = omega arith in
    rw e (rw none at (area-ends cells 0 to (omega arith)))

pub area-most : (cells : List ℕ) (from to : ℕ) → IsAtMostOne (cell cells) → from ≤ to → area (cell cells) from to ≤ length cells * ONE
area-most cells from to most le =
    let a : ℕ = min from (min to (length cells)) in
    let b : ℕ = min to (length cells) in
    let e : a + (b - a) ≡ b = omega arith in
    let w : area (cell cells) a b ≤ (b - a) * ONE = rw e at (area-within (cell cells) a (b - a) most) in
    let s : (b - a) * ONE ≤ length cells * ONE = mul-le-mul_right ONE (omega arith) in
    omega (arith, w, s, area-ends cells from to le)

pub area-past : (cells : List ℕ) (from to : ℕ) → from ≤ to → length cells ≤ from → area (cell cells) from to ≡ 0
area-past cells from to le past =
    let a : min from (min to (length cells)) ≡ length cells = omega arith in
    let b : min to (length cells) ≡ length cells = omega arith in
    let none : length cells - length cells ≡ 0 = omega arith in
    let e : area (cell cells) (length cells) (length cells) ≡ 0 = rw none refl in
    sym (rw (a, b) at (area-ends cells from to le)) ∙ e

-- a sum of the cells from a level on, and the one a place further
pub record Slides (cells : List ℕ) (level peak total : ℕ) : Type 0 where
  pub inside : level < length cells
  pub holds : cell cells level ≤ total
  pub next : total - cell cells level + cell cells (level + peak) ≡ area (cell cells) (level + 1) (level + 1 + peak)

pub slides : (cells : List ℕ) (level peak total : ℕ) → total ≡ area (cell cells) level (level + peak) → 0 < total → Slides cells level peak total
slides cells level peak total is some =
    let inside : level < length cells = elim (cases_lt level (length cells)) [
      | inl lt ↦ lt
      | inr past ↦ absurd (omega (arith, is, area-past cells level (level + peak) (omega arith) past))
    ] in
    let wide : 0 < peak = elim (cases_lt 0 peak) [
      | inl lt ↦ lt
      | inr narrow ↦
          let none : level + peak - level ≡ 0 = omega arith in
          let e : area (cell cells) level (level + peak) ≡ 0 = rw none refl in
          absurd (omega (arith, is, e))
    ] in
    let e : level + 1 + peak ≡ level + peak + 1 = omega arith in
    let first = area-first (cell cells) level (level + peak) (omega arith) in
    let more : area (cell cells) (level + 1) (level + peak + 1) ≡ area (cell cells) (level + 1) (level + peak) + cell cells (level + peak) = area-more (cell cells) (level + 1) (level + peak) (omega arith) in
    record {
      inside = inside;
      holds = omega (arith, is, first);
      next = rw e (omega (arith, is, first, more));
    }

pub some_of : (total hours energy : ℕ) → energy < total * hours → 0 < total
some_of total hours energy lt =
    elim (cases_lt 0 total) [
      | inl some ↦ some
      | inr none ↦
          let m : total * hours ≤ 0 * hours = mul-le-mul_right hours none in
          absurd (omega (arith, m))
    ]

-- no product of a sum and hours is too large
pub energy-fits : (total hours count : ℕ) → total ≤ count * ONE → count ≤ 65536 → hours ≤ 175200 → total * hours < 2 ^ 64
energy-fits total hours count most short few =
    let m : total * hours ≤ 65536 * ONE * 175200 = mul-le-mul (let t : total ≤ 65536 * ONE = omega arith in t) few in
    omega (arith, m)
