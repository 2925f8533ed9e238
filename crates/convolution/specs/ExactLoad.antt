-- The equivalent load with nothing rounded, and how near a rounded curve is to it. This program's own.
-- n units make it M ^ n times as large, so that it is a whole number.
use Rattle.std.specs.Prelude.{ℕ, ◌+◌, ◌*◌, ◌^◌, ◌≤◌, List, [], ◌∷◌, length, All}
use Rattle.wasp_fixed.specs.Curves.{before}
use Rattle.wasp_fixed.specs.declared.numbers.TheConstants.{M, ONE}
use Rattle.convolution.specs.EquivalentLoad.{Part, equivalent_load, two_states}

-- one unit more, where n units are in the curve
abbrev pub exact_step : ℕ → (ℕ → ℕ) → Part → ℕ → ℕ
exact_step n curve part x = two_states part.rate (curve x) (before (M ^ n * ONE) curve part.capacity x)

-- further units in turn, where n units are in the curve
abbrev pub exact_onto : ℕ → (ℕ → ℕ) → List Part → ℕ → ℕ
exact_onto n curve [] = curve
exact_onto n curve (part ∷ parts) = exact_onto (n + 1) (exact_step n curve part) parts

-- the load and the units in turn, the oldest unit first
abbrev pub exact_load : (ℕ → ℕ) → List Part → ℕ → ℕ
exact_load base parts = exact_onto 0 base parts

-- a curve is never above the exact load, and at most k below it
pub record IsWithin (k : ℕ) (curve base : ℕ → ℕ) (parts : List Part) : Type 0 where
  pub not_above : (x : ℕ) → M ^ length parts * curve x ≤ exact_load base parts x
  pub near : (x : ℕ) → exact_load base parts x ≤ M ^ length parts * (curve x + k)

-- the rounding bound: n units, each rounded down once, put the equivalent load at most n below the exact load
abbrev pub LoadsAreNearExact : Type 0
LoadsAreNearExact = (base : ℕ → ℕ) (parts : List Part) → All (λ part. part.rate ≤ M) parts → IsWithin (length parts) (equivalent_load base parts) base parts
