-- The number of configurations up to the first of some greatest counts.
use Rattle.std.proofs.Common.{◌≡◌, ℕ, zero, suc, ◌+◌, ◌*◌, ◌^◌, ◌<◌, true, nat_lt, List, [], ◌∷◌, length, take, slice_index, sym, arith}
use Rattle.std.proofs.lemmas.Bool.{lt-ltb}
use Rattle.std.proofs.Math.Nat.{mul_assoc}
use Rattle.year_system.specs.System.{size}
use Rattle.year_system.proofs.Radix.{size_take}

pub size_more : (gs : List ℕ) (i : ℕ) → i < length gs → size (take (i + 1) gs) ≡ size (take i gs) * (slice_index gs i + 1)
size_more [] i h = absurd (omega arith)
size_more (g ∷ gs) zero h = omega arith
size_more (g ∷ gs) (suc i) h =
    let e : suc i + 1 ≡ suc (i + 1) = omega arith in
    rw (e, size_more gs i (omega arith)) (sym (mul_assoc (g + 1) (size (take i gs)) (slice_index gs i + 1)))

pub size_above : (gs : List ℕ) (i s count : ℕ) → i < length gs → s ≡ size (take i gs) → count ≡ slice_index gs i → 2 ^ 50 < s * (count + 1) → nat_lt (2 ^ 50) (size gs) ≡ true
size_above gs i s count lt e d above =
    let m : size (take (i + 1) gs) ≡ s * (count + 1) = rw (e, d) (size_more gs i lt) in
    lt-ltb (2 ^ 50) (size gs) (omega (arith, size_take gs (i + 1), m, above))
