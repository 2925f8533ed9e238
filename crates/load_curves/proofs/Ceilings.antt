-- Lemmas on quotients that are rounded up.
use Rattle.std.proofs.Common.{◌≡◌, ℕ, ◌+◌, ◌-◌, ◌*◌, ◌/◌, ◌%◌, ◌<◌, ◌≤◌, min, sym, arith, inl, inr}
use Rattle.std.proofs.Math.Nat.{mul-le-mul_right, div-mul-le_self, lt-div-mul-add, div-eq_of_lt-le, le_refl, mul-le-mul}
use Rattle.std.proofs.lemmas.Bool.{cases_lt}
use Rattle.std.proofs.lemmas.Grind.{div_ceil_times}

pub ceiling-below : (a b x : ℕ) → 1 ≤ b → x < (a + b - 1) / b → x * b < a
ceiling-below a b x one h =
    let m : (x + 1) * b ≤ (a + b - 1) / b * b = mul-le-mul_right b (omega arith) in
    omega (arith, m, div-mul-le_self (a + b - 1) b)

pub ceiling-from : (a b x : ℕ) → 1 ≤ b → (a + b - 1) / b ≤ x → a ≤ x * b
ceiling-from a b x one h =
    let m : (a + b - 1) / b * b ≤ x * b = mul-le-mul_right b h in
    let l : a + b - 1 < (a + b - 1) / b * b + b = lt-div-mul-add one in
    omega (arith, m, l)

-- a number that is enough, and no more than enough
pub ceiling-is : (a b n : ℕ) → 1 ≤ b → a ≤ n * b → n * b < a + b → n ≡ (a + b - 1) / b
ceiling-is a b n one h l = sym (div-eq_of_lt-le b (omega arith) (omega arith))

-- std's form of it
pub ceiling-div_ceil : (a b : ℕ) → 1 ≤ b → a / b + min 1 (a % b) ≡ (a + b - 1) / b
ceiling-div_ceil a b one =
    let bounds = div_ceil_times a b one in
    ceiling-is a b (a / b + min 1 (a % b)) one bounds.0 bounds.1

-- both numbers made so many times as large
pub ceiling-times : (a b k : ℕ) → 1 ≤ b → 1 ≤ k → (a * k + b * k - 1) / (b * k) ≡ (a + b - 1) / b
ceiling-times a b k one some =
    let q : ℕ = (a + b - 1) / b in
    let e : a ≤ q * b = ceiling-from a b q one (le_refl q) in
    let l : q * b < a + b = omega (arith, div-mul-le_self (a + b - 1) b) in
    let ek : a * k ≤ q * b * k = mul-le-mul_right k e in
    let lk : (q * b + 1) * k ≤ (a + b) * k = mul-le-mul_right k (let m : q * b + 1 ≤ a + b = omega (arith, l) in m) in
    let p : 1 ≤ b * k = let m : 1 * 1 ≤ b * k = mul-le-mul one some in omega (arith, m) in
    sym (ceiling-is (a * k) (b * k) q p (omega arith) (omega arith))

pub ceiling-le : (a c b : ℕ) → 1 ≤ b → a ≤ c → (a + b - 1) / b ≤ (c + b - 1) / b
ceiling-le a c b one le =
    let q : ℕ = (c + b - 1) / b in
    let enough : c ≤ q * b = ceiling-from c b q one (le_refl q) in
    elim (cases_lt q ((a + b - 1) / b)) [
      | inl lt ↦ absurd (omega (arith, ceiling-below a b q one lt))
      | inr ge ↦ ge
    ]
