-- How far the estimate of a mean is from the mean.
use Rattle.std.proofs.Common.{◌≡◌, ℕ, ◌+◌, ◌-◌, ◌*◌, ◌/◌, ◌^◌, ◌<◌, ◌≤◌, sym, ap, ◌∙◌, arith, lit<}
use Rattle.std.proofs.Math.Nat.{mul-add-div_right, mul-le-mul_left}
use Rattle.wasp_fixed.specs.declared.numbers.TheConstants.{ONE, M}
use Rattle.convolution.specs.EquivalentLoad.{two_states}

-- the high bits of f and g, and the shares of their weights
low : (keep rate f g fh gh ks rs e : ℕ) → 32768 * fh ≤ f → 32768 * gh ≤ g → M * ks ≤ keep * 131072 → M * rs ≤ rate * 131072 → 4 * e ≤ fh * ks + gh * rs → e * M ≤ keep * f + rate * g
low keep rate f g fh gh ks rs e fl gl kl rl el =
    omega (arith, mul-le-mul_left fh kl, mul-le-mul_left gh rl, mul-le-mul_left keep fl, mul-le-mul_left rate gl)

high : (keep rate f g fh gh ks rs e : ℕ) → keep + rate ≡ M → f ≤ 32768 * fh + 32767 → g ≤ 32768 * gh + 32767 → fh ≤ 30517 → gh ≤ 30517 → keep * 131072 ≤ M * ks + 9999 → rate * 131072 ≤ M * rs + 9999 → fh * ks + gh * rs ≤ 4 * e + 3 → keep * f + rate * g < e * M + 2 ^ 32
high keep rate f g fh gh ks rs e whole fl gl fs gs kl rl el =
    omega (arith, mul-le-mul_left fh kl, mul-le-mul_left gh rl, mul-le-mul_left keep fl, mul-le-mul_left rate gl)

pub estimate-low : (keep rate f g ks rs : ℕ) → ks ≡ keep * 131072 / M → rs ≡ rate * 131072 / M → (f / 32768 * ks + g / 32768 * rs) / 4 * M ≤ keep * f + rate * g
estimate-low keep rate f g ks rs k r =
    low keep rate f g (f / 32768) (g / 32768) ks rs _ (omega arith) (omega arith) (omega arith) (omega arith) (omega arith)

pub estimate-high : (keep rate f g ks rs : ℕ) → keep + rate ≡ M → f ≤ ONE → g ≤ ONE → ks ≡ keep * 131072 / M → rs ≡ rate * 131072 / M → keep * f + rate * g < (f / 32768 * ks + g / 32768 * rs) / 4 * M + 2 ^ 32
estimate-high keep rate f g ks rs whole fo go k r =
    high keep rate f g (f / 32768) (g / 32768) ks rs _ whole (omega arith) (omega arith) (omega arith) (omega arith) (omega arith) (omega arith) (omega arith)

-- a quotient from an estimate that is not too high
pub div-estimated : (e t : ℕ) → e * M ≤ t → e + (t - e * M) / M ≡ t / M
div-estimated e t h =
    let s : e * M + (t - e * M) ≡ t = omega arith in
    sym (mul-add-div_right (lit< tt) e (t - e * M)) ∙ ap (λ n. n / M) s

-- the mean, from the estimate of it
pub mean-estimated : (keep rate f g ks rs : ℕ) → keep + rate ≡ M → ks ≡ keep * 131072 / M → rs ≡ rate * 131072 / M → let e = (f / 32768 * ks + g / 32768 * rs) / 4 in e + (keep * f + rate * g - e * M) / M ≡ two_states rate f g / M
mean-estimated keep rate f g ks rs whole k r =
    let d : M - rate ≡ keep = omega arith in
    rw d (div-estimated _ (keep * f + rate * g) (estimate-low keep rate f g ks rs k r))
