-- A count that stands at its last value.
use Rattle.std.proofs.Common.{◌≡◌, ℕ, zero, suc, ◌+◌, ◌-◌, ◌^◌, ◌<◌, min, ◌∙◌, ap, arith}
use Rattle.sim_engine.specs.Engine.{counted, raised}

counted_more : (count n : ℕ) → counted (min (count + n) (2 ^ 64 - 1)) ≡ min (count + suc n) (2 ^ 64 - 1)
counted_more count n = omega arith

pub raised_to : (n count : ℕ) → count < 2 ^ 64 → raised n count ≡ min (count + n) (2 ^ 64 - 1)
raised_to zero count below = omega (arith, below)
raised_to (suc n) count below = ap counted (raised_to n count below) ∙ counted_more count n
