-- Discount factors as a table, one for each number of years.
use Rattle.std.specs.Prelude.{◌≡◌, ℕ, ◌*◌, ◌≤◌, List, slice_index}
use Rattle.wasp_fixed.specs.Discounts.{end_factor, mid_factor}
use Rattle.wasp_fixed.specs.declared.numbers.TheConstants.{ONE}
use Rattle.cost_terms.specs.Cost.{fuel_factor}
use Rattle.cost_terms.specs.declared.factors.Factors.{Factors}
use Rattle.cost_terms.specs.declared.prices.CostData.{CostData}

-- the cells are the values of a function from 0 to 30 years, none above a bound
pub record IsColumn (f : ℕ → ℕ) (most : ℕ) (column : List ℕ) : Type 0 where
  pub value : (k : ℕ) → k ≤ 30 → slice_index column k ≡ f k
  pub small : (k : ℕ) → k ≤ 30 → slice_index column k ≤ most

-- the factors are those of an economy
pub record AreFactors (c : CostData) (f : Factors) : Type 0 where
  pub end_domestic : IsColumn (end_factor c.rates.domestic) ONE f.end_domestic
  pub end_foreign : IsColumn (end_factor c.rates.foreign) ONE f.end_foreign
  pub middle : IsColumn (mid_factor c.rates.domestic) ONE f.middle
  pub fuel_domestic : IsColumn (fuel_factor c.rates.domestic c.escalation.domestic) (18 * ONE) f.fuel_domestic
  pub fuel_foreign : IsColumn (fuel_factor c.rates.foreign c.escalation.foreign) (18 * ONE) f.fuel_foreign
