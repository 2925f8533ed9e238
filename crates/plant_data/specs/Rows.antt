-- The bounds of what a year's simulation answers. This program's own: they hold of every system of at most
-- 400,000 MW, and keep each cost of 30 years below 2^64.
use Rattle.std.specs.Prelude.{◌^◌, ◌<◌, ◌≤◌}
use Rattle.plant_data.specs.declared.row.Row.{Row}
use Rattle.wasp_fixed.specs.declared.numbers.TheConstants.{ONE}

-- the fields of a row are within their bounds
pub record IsRow (r : Row) : Type 0 where
  pub fuel_domestic : r.fuel_domestic < 2 ^ 63
  pub fuel_foreign : r.fuel_foreign < 2 ^ 63
  pub variable : r.variable < 2 ^ 49
  pub unserved : r.unserved < 2 ^ 32
  pub worst : r.worst ≤ ONE
  pub average : r.average ≤ ONE
  pub short1 : r.short1 < 2 ^ 32
  pub short2 : r.short2 < 2 ^ 32
  pub short3 : r.short3 < 2 ^ 32
  pub short4 : r.short4 < 2 ^ 32
  pub short5 : r.short5 < 2 ^ 32
