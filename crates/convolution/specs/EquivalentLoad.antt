-- The equivalent load of Baleriaux and Booth, as MERSIM has it (IAEA Computer Manual Series No. 16):
-- the load that is left for the units not yet loaded, where the load that falls to a unit that is out
-- is added to the demand. Each convolution is rounded down once, which is this program's own.
use Rattle.std.specs.Prelude.{ℕ, ◌+◌, ◌-◌, ◌*◌, ◌/◌, List, fold}
use Rattle.wasp_fixed.specs.Curves.{before}
use Rattle.wasp_fixed.specs.declared.numbers.TheConstants.{M, ONE}

-- a unit, or what is loaded of it: its capacity in cells, and its outage rate in parts of M
pub record Part : Type 0 where
  pub capacity : ℕ
  pub rate : ℕ

-- M times the mean over a unit's two states: `up` where it runs, `out` where it is out
abbrev pub two_states : ℕ → ℕ → ℕ → ℕ
two_states rate up out = (M - rate) * up + rate * out

-- one unit more at x: where it is out, x is reached by the load that was at x - capacity; below 0 that is sure
abbrev pub eq_step : (ℕ → ℕ) → ℕ → ℕ → ℕ → ℕ
eq_step curve capacity rate x = two_states rate (curve x) (before ONE curve capacity x) / M

-- the load and the units in turn, the oldest unit first
abbrev pub equivalent_load : (ℕ → ℕ) → List Part → ℕ → ℕ
equivalent_load base parts = fold (λ curve part. eq_step curve part.capacity part.rate) base parts
