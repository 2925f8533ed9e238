-- Lemmas on discount factors.
use Rattle.std.proofs.Common.{◌≡◌, ℕ, zero, suc, ◌+◌, ◌*◌, ◌/◌, ◌^◌, ◌<◌, ◌≤◌, Bool, lit<, refl, cond, true, false, arith, leb, inl, inr}
use Rattle.std.proofs.Math.Nat.{div-le_of_le-mul, mul-le-mul_left, mul-div-le, lt-mul-div-succ, pow-succ'}
use Rattle.std.proofs.lemmas.Bool.{cases_order, leb-true, leb-false}
use Rattle.wasp_fixed.specs.declared.numbers.TheConstants.{ONE}
use Rattle.wasp_fixed.specs.Discounts.{end_factor, half_year, IsRoot, root_of}

-- a year more never makes a factor greater
pub shrinks : (factor rate : ℕ) → factor ≤ ONE → factor * 10000 / (10000 + rate) ≤ ONE
shrinks factor rate h = div-le_of_le-mul (10000 + rate) (omega (arith, mul-le-mul_left rate h))

square-le : (a b : ℕ) → a ≤ b → a * a ≤ b * b
square-le a b h = omega (arith, mul-le-mul_left a h, mul-le-mul_left b h)

-- a number has one root
not_below : (n a b : ℕ) → IsRoot n a → IsRoot n b → a < b → ⊥
not_below n a b h i lt = omega (arith, h.greatest, i.within, square-le (a + 1) b (omega arith))

pub same_root : (n a b : ℕ) → IsRoot n a → IsRoot n b → a ≡ b
same_root n a b h i =
    elim (cases_order a b) [
      | inl same ↦ same
      | inr (inl lt) ↦ absurd (not_below n a b h i lt)
      | inr (inr lt) ↦ absurd (not_below n b a i h lt)
    ]

-- one digit more
digit : (n q r : ℕ) (b : Bool) → leb ((2 * r + 1) * (2 * r + 1)) n ≡ b → IsRoot q r → 4 * q ≤ n → n < 4 * (q + 1) → IsRoot n (cond b (2 * r + 1) (2 * r))
digit n q r true e h low high = record { within = leb-true _ n e; greatest = omega (arith, h.greatest) }
digit n q r false e h low high = record { within = omega (arith, h.within); greatest = leb-false _ n e }

root_is : (digits n : ℕ) → n < 4 ^ digits → IsRoot n (root_of digits n)
unfolding root_of
root_is zero n h = record { within = omega arith; greatest = omega (arith, h) }
root_is (suc digits) n h =
    let above : n < 4 * (n / 4 + 1) = lt-mul-div-succ n (lit< tt) in
    let small : n < 4 * 4 ^ digits = rw (pow-succ' 4 digits) at h in
    digit n (n / 4) (root_of digits (n / 4)) _ refl (root_is digits (n / 4) (omega (arith, mul-div-le n 4, small))) (mul-div-le n 4) above

pub half_is : (rate root : ℕ) → end_factor rate 1 ≤ ONE → IsRoot (end_factor rate 1 * ONE) root → root ≡ half_year rate
unfolding half_year
half_is rate root most h = same_root (end_factor rate 1 * ONE) root _ h (root_is 30 (end_factor rate 1 * ONE) (omega (arith, most)))
