-- When a configuration's row is accepted: both loss-of-load probabilities, the worst of a period and the
-- average of the year, are at most the limits of the case. After the critical LOLP of the IAEA's Computer
-- Manual Series No. 16; that equality passes is this program's own.
use Rattle.std.specs.Prelude.{◌≤◌}
use Rattle.plant_data.specs.declared.row.Limit.{Limit}
use Rattle.plant_data.specs.declared.row.Row.{Row}

abbrev pub IsAccepted : Row → Limit → Type 0
IsAccepted row limit = (row.worst ≤ limit.worst) × (row.average ≤ limit.average)
