-- Plans of expansion: for each year an accepted configuration, no count of which ever falls. After the
-- admissible trajectories of DYNPRO in the IAEA's Computer Manual Series No. 16.
--
-- A plan is the list of its years' entries, each a configuration with its row, from year 1 on.
use Rattle.std.specs.Prelude.{ℕ, ◌+◌, ◌<◌, ◌≤◌, List, [], length, map, Contains, slice_index_or}
use Rattle.plant_data.specs.Configs.{IsAtMost}
use Rattle.plant_data.specs.declared.row.Row.{Row}
use Rattle.cost_terms.specs.Table.{Table}
use Rattle.cost_terms.specs.declared.entries.Scored.{Scored}

-- what is read past the last entry
abbrev pub no_row : Row
no_row = record { fuel_domestic = 0; fuel_foreign = 0; variable = 0; unserved = 0; worst = 0; average = 0; short1 = 0; short2 = 0; short3 = 0; short4 = 0; short5 = 0 }

abbrev pub no_entry : Scored
no_entry = record { config = []; row = no_row }

-- the entry of a year, counted from 0, or at a place of a layer
abbrev pub entry_at : List Scored → ℕ → Scored
entry_at entries k = slice_index_or entries k no_entry

-- the layer of a year, counted from 0: its accepted configurations with their rows
abbrev pub layer_at : Table → ℕ → List Scored
layer_at t k = slice_index_or t.layers k []

-- the configurations of a plan
abbrev pub configs : List Scored → List (List ℕ)
configs plan = map (λ e. e.config) plan

-- each configuration is accepted in its year, and no count falls from a year to the next
pub record IsAdmissible (t : Table) (plan : List Scored) : Type 0 where
  pub years : length plan ≤ length t.layers
  pub accepted : (k : ℕ) → k < length plan → Contains (layer_at t k) (entry_at plan k)
  pub grows : (k : ℕ) → k + 1 < length plan → IsAtMost (entry_at plan k).config (entry_at plan (k + 1)).config
