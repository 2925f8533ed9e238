-- The cells of a system fit the grid, and its periods the year.
use Rattle.std.proofs.Common.{◌≡◌, ℕ, ◌+◌, ◌-◌, ◌*◌, ◌/◌, ◌%◌, ◌<◌, ◌≤◌, ap, arith, sym, ◌∙◌, ⊎_elim}
use Rattle.std.proofs.Math.Nat.{add-mul, mod-add-div, mul-div_cancel_left, mul-le-mul_right, mul_left_comm, mul_comm}
use Rattle.std.proofs.lemmas.Bool.{cases_lt}

pub cells_fit : (p t s : ℕ) → 1 ≤ s → t + p ≤ 65535 * s → (p + s - 1) / s + t / s ≤ 65535
cells_fit p t s h f =
    let a = (p + s - 1) / s in
    let b = t / s in
    let whole : (a + b) * s < 65536 * s = omega (arith, add-mul a b s, mod-add-div (p + s - 1) s, mod-add-div t s, h, f) in
    ⊎_elim (λ below. omega (arith, below)) (λ above. absurd (omega (arith, whole, mul-le-mul_right {m = 65536} {n = a + b} s above))) (cases_lt (a + b) 65536)

pub hours_whole : (n : ℕ) → 1 ≤ n → 12 % n ≡ 0 → 8760 / n * n ≡ 8760
hours_whole n h e =
    let q = 12 / n in
    let twelve : n * q ≡ 12 = omega (arith, mod-add-div 12 n, e) in
    let parts : n * (730 * q) ≡ 8760 = omega (arith, twelve, mul_left_comm n 730 q) in
    let quotient : 8760 / n ≡ 730 * q = ap (λ k. k / n) (sym parts) ∙ mul-div_cancel_left (730 * q) {n = n} h in
    ap (λ k. k * n) quotient ∙ (mul_comm (730 * q) n ∙ parts)
