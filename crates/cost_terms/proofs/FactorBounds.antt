-- Discount factors never rise, and escalated prices stay below eighteen times the first.
use Rattle.std.proofs.Common.{◌≡◌, ℕ, zero, suc, ◌+◌, ◌*◌, ◌/◌, ◌≤◌, arith, refl, ⊎_elim}
use Rattle.std.proofs.Math.Nat.{div-le_of_le-mul, mul-le-mul, mul-le-mul_left}
use Rattle.std.proofs.lemmas.Bool.{cases_eq, leb-true}
use Rattle.std.proofs.lemmas.Nat.{le-div}
use Rattle.wasp_fixed.proofs.Factors.{shrinks}
use Rattle.wasp_fixed.specs.Discounts.{end_factor}
use Rattle.wasp_fixed.specs.declared.numbers.TheConstants.{ONE}
use Rattle.wasp_fixed.proofs.Floors.{div-le-div}
use Rattle.cost_terms.specs.Cost.{escalated}

pub end_most : (rate k : ℕ) → end_factor rate k ≤ ONE
unfolding end_factor
end_most rate zero = omega arith
end_most rate (suc k) = shrinks (end_factor rate k) rate (end_most rate k)

-- a year more
end_falls : (rate k : ℕ) → end_factor rate (suc k) ≤ end_factor rate k
unfolding end_factor
end_falls rate k =
    let f : ℕ = end_factor rate k in
    let m : f * 10000 ≤ f * (10000 + rate) = mul-le-mul_left f (omega arith) in
    omega (arith, div-le-div (f * 10000) (f * (10000 + rate)) (10000 + rate) (omega arith) m)

pub end_later : (rate k n : ℕ) → k ≤ n → end_factor rate n ≤ end_factor rate k
end_later rate k zero h = let e : k ≡ 0 = omega (arith, h) in rw e (omega arith)
end_later rate k (suc n) h =
    ⊎_elim (λ e. rw e (omega arith)) (λ d. omega (arith, end_falls rate n, end_later rate k n (omega (arith, h, d)))) (cases_eq k (suc n))

-- a higher rate, and a year more, make prices no lower
dearer : (rate k : ℕ) → rate ≤ 1000 → escalated rate k ≤ escalated 1000 k
unfolding escalated
dearer rate zero h = omega arith
dearer rate (suc k) h = div-le-div _ _ 10000 (omega arith) (mul-le-mul (dearer rate k h) (omega arith))

rises : (k : ℕ) → escalated 1000 k ≤ escalated 1000 (suc k)
unfolding escalated
rises k = le-div (escalated 1000 k) (escalated 1000 k * 11000) 10000 (omega arith) (omega arith)

rises_to : (k n : ℕ) → k ≤ n → escalated 1000 k ≤ escalated 1000 n
rises_to k zero h = let e : k ≡ 0 = omega (arith, h) in rw e (omega arith)
rises_to k (suc n) h =
    ⊎_elim (λ e. rw e (omega arith)) (λ d. omega (arith, rises n, rises_to k n (omega (arith, h, d)))) (cases_eq k (suc n))

thirty_years : escalated 1000 30 ≤ 18 * ONE
unfolding escalated
thirty_years = leb-true (escalated 1000 30) (18 * ONE) refl

pub escalated_most : (rate k : ℕ) → rate ≤ 1000 → k ≤ 30 → escalated rate k ≤ 18 * ONE
escalated_most rate k h l = omega (arith, dearer rate k h, rises_to k 30 l, thirty_years)

-- the worth of an escalated price in the middle of a year
pub fuel_most : (mid price : ℕ) → mid ≤ ONE → mid * price / ONE ≤ price
fuel_most mid price h =
    let m : mid * price ≤ ONE * price = mul-le-mul h (omega arith) in
    div-le_of_le-mul ONE m
