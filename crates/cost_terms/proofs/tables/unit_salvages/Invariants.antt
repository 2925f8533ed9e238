use Rattle.std.proofs.Common.{◌≡◌, ℕ, ◌<◌, length, slice_index}
use Rattle.cost_terms.specs.Cost.{added_units, item_salvage}
use Rattle.cost_terms.proofs.tables.unit_salvages.Given as goal

abbrev pub invariant-loop-n : goal.invariant-loop-n
invariant-loop-n l = record {
  counts : length l.row.items ≡ l.n;
  each : (n : ℕ) → n < l.n → slice_index l.row.items n ≡ item_salvage l.horizon (added_units l.plant n);
}
