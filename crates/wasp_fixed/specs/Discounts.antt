-- Discount factors. Present worth at the beginning of year 1, as in the IAEA's Computer Manual Series No. 16; the rounding is this program's own.
use Rattle.std.specs.Prelude.{ℕ, zero, suc, ◌+◌, ◌*◌, ◌/◌, ◌<◌, ◌≤◌, nat_le, if◌then◌else◌}
use Rattle.wasp_fixed.specs.declared.numbers.TheConstants.{ONE}

-- the worth of ONE after so many years, at a rate in hundredths of a percent per year
unfoldable pub end_factor : ℕ → ℕ → ℕ
end_factor rate zero = ONE
end_factor rate (suc years) = end_factor rate years * 10000 / (10000 + rate)

-- the greatest number whose square is at most n
pub record IsRoot (n root : ℕ) : Type 0 where
  pub within : root * root ≤ n
  pub greatest : n < (root + 1) * (root + 1)

-- the root of a number below 4 ^ digits, by its digits in base 2
unfoldable pub root_of : ℕ → ℕ → ℕ
root_of zero n = 0
root_of (suc digits) n = if nat_le ((2 * root_of digits (n / 4) + 1) * (2 * root_of digits (n / 4) + 1)) n then 2 * root_of digits (n / 4) + 1 else 2 * root_of digits (n / 4)

-- the worth of ONE after half a year: the greatest number whose square is at most that of one year times ONE
unfoldable pub half_year : ℕ → ℕ
half_year rate = root_of 30 (end_factor rate 1 * ONE)

-- the worth of ONE in the middle of a year, so many years later
abbrev pub mid_factor : ℕ → ℕ → ℕ
mid_factor rate years = end_factor rate years * half_year rate / ONE
