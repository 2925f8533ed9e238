-- Lemmas on the mean over a unit's two states.
use Rattle.std.proofs.Common.{◌≡◌, ℕ, ◌+◌, ◌-◌, ◌*◌, ◌/◌, ◌≤◌, arith}
use Rattle.std.proofs.Math.Nat.{mul-le-mul_left, div-le_of_le-mul}
use Rattle.wasp_fixed.specs.declared.numbers.TheConstants.{M}
use Rattle.convolution.specs.EquivalentLoad.{two_states}

-- two weights
weighted-le : (keep rate up out top : ℕ) → up ≤ top → out ≤ top → keep * up + rate * out ≤ (keep + rate) * top
weighted-le keep rate up out top u o = omega (arith, mul-le-mul_left keep u, mul-le-mul_left rate o)

two_states-le : (rate up out top : ℕ) → rate ≤ M → up ≤ top → out ≤ top → two_states rate up out ≤ M * top
two_states-le rate up out top r u o =
    let e : (M - rate) + rate ≡ M = omega arith in
    let h : two_states rate up out ≤ ((M - rate) + rate) * top = weighted-le (M - rate) rate up out top u o in
    rw e at h

-- a mean of two values is no larger than both
pub two_states-div-le : (rate up out top : ℕ) → rate ≤ M → up ≤ top → out ≤ top → two_states rate up out / M ≤ top
two_states-div-le rate up out top r u o = div-le_of_le-mul M (two_states-le rate up out top r u o)
