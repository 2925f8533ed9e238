-- The share of a difference by a fraction of 2^64.
use Rattle.std.proofs.Common.{◌≡◌, ℕ, ◌+◌, ◌-◌, ◌*◌, ◌/◌, ◌<◌, ◌≤◌, sym, ap, ◌∙◌, arith, lit<}
use Rattle.std.proofs.Math.Nat.{mul-add-div_right, mul-le-mul_left, div-le_of_le-mul}
use Rattle.wasp_fixed.specs.declared.numbers.TheConstants.{M, ONE}
use Rattle.convolution.specs.EquivalentLoad.{two_states}
use Rattle.sim_fast.specs.Behind.{shifted_step}

-- a product with two halves, of which the low half is rounded down
halves-low : (d h l a q : ℕ) → a * 4294967296 ≤ d * l → q * 4294967296 ≤ d * h + a → q * 18446744073709551616 ≤ d * (h * 4294967296 + l)
halves-low d h l a q ha hq = omega (arith, ha, hq)

halves-high : (d h l a q : ℕ) → d * l < a * 4294967296 + 4294967296 → d * h + a < q * 4294967296 + 4294967296 → d * (h * 4294967296 + l) < q * 18446744073709551616 + 18446744073709551616
halves-high d h l a q ha hq = omega (arith, ha, hq)

-- the quotient by the fraction w of 2^64
not-more : (d r w q k : ℕ) → d ≤ ONE → w * M < r * 18446744073709551616 + M → q * 18446744073709551616 ≤ d * w → r * d < k * M + M → q ≤ k
not-more d r w q k most near hq hk =
    let n : d * (w * M) ≤ d * (r * 18446744073709551616 + 9999) = mul-le-mul_left d (omega (arith, near)) in
    omega (arith, n, hq, hk, most)

not-less : (d r w q k : ℕ) → r * 18446744073709551616 ≤ w * M → d * w < q * 18446744073709551616 + 18446744073709551616 → k * M ≤ r * d → k ≤ q
not-less d r w q k enough hq hk =
    let n : d * (r * 18446744073709551616) ≤ d * (w * M) = mul-le-mul_left d enough in
    omega (arith, n, hq, hk)

pub share-exact : (d r h l : ℕ) → d ≤ ONE → r * 18446744073709551616 ≤ (h * 4294967296 + l) * M → (h * 4294967296 + l) * M < r * 18446744073709551616 + M → (d * h + d * l / 4294967296) / 4294967296 ≡ r * d / M
share-exact d r h l most enough near =
    let a = d * l / 4294967296 in
    let q = (d * h + a) / 4294967296 in
    let k = r * d / M in
    let lo = halves-low d h l a q (omega arith) (omega arith) in
    let hi = halves-high d h l a q (omega arith) (omega arith) in
    let up : q ≤ k = not-more d r (h * 4294967296 + l) q k most near lo (omega arith) in
    let down : k ≤ q = not-less d r (h * 4294967296 + l) q k enough hi (omega arith) in
    omega (arith, up, down)

-- the mean from the share of the difference
parted-sum : (keep r a s d : ℕ) → keep + r ≡ M → a + d ≡ s → keep * a + r * s ≡ a * M + r * d
parted-sum keep r a s d h e = rw (← e, ← h) (omega arith)

parted : (r a s : ℕ) → r ≤ M → a ≤ s → two_states r a s ≡ a * M + r * (s - a)
parted r a s h o =
    parted-sum (M - r) r a s (s - a) (omega arith) (omega arith)

pub mean-parted : (r a s : ℕ) → r ≤ M → a ≤ s → a + r * (s - a) / M ≡ two_states r a s / M
mean-parted r a s h o = sym (mul-add-div_right (lit< tt) a (r * (s - a))) ∙ ap (λ n. n / M) (sym (parted r a s h o))

pub share-within : (d r : ℕ) → r ≤ M → r * d / M ≤ d
share-within d r h = div-le_of_le-mul M (let n : d * r ≤ d * M = mul-le-mul_left d h in omega (arith, n))

-- the mean of ones is one, and that with a cell past the end is a share
ones-mean : (keep r : ℕ) → keep + r ≡ M → (keep * ONE + r * ONE) / M ≡ ONE
ones-mean keep r h =
    let e : keep * ONE + r * ONE ≡ ONE * M + 0 = omega (arith, h) in
    rw e (mul-add-div_right {m = M} (lit< tt) ONE 0)

pub step-ones : (f : ℕ → ℕ) (c r x : ℕ) → r ≤ M → f x ≡ ONE → f (x + c) ≡ ONE → shifted_step f c r x ≡ ONE
step-ones f c r x h one two = rw (one, two) (ones-mean (M - r) r (omega arith))

pub step-end : (f : ℕ → ℕ) (c r x : ℕ) → f (x + c) ≡ 0 → shifted_step f c r x ≡ two_states r 0 (f x) / M
step-end f c r x none = ap (λ n. two_states r n (f x) / M) none
