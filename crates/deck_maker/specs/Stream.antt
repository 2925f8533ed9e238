-- The random numbers of trial decks: a linear congruential generator modulo 2^32, with the multiplier and
-- the increment of "Numerical Recipes" (Press and others). A number is made of the upper half of a state.
use Rattle.std.specs.Prelude.{ℕ, zero, suc, ◌+◌, ◌*◌, ◌/◌, ◌%◌, ◌^◌}

-- a seed, and how many of its numbers were drawn
pub record Place : Type 0 where
  pub seed : ℕ
  pub drawn : ℕ

-- the state behind so many draws
unfoldable pub state_behind : ℕ → ℕ → ℕ
state_behind seed zero = seed % 2 ^ 32
state_behind seed (suc drawn) = (1_664_525 * state_behind seed drawn + 1_013_904_223) % 2 ^ 32

-- the number of a seed behind so many draws, below `count`
unfoldable pub draw : ℕ → ℕ → ℕ → ℕ
draw seed drawn count = state_behind seed (drawn + 1) / 65_536 % count
