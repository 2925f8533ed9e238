use Rattle.std.proofs.Common.{◌≡◌, ◌++◌, length, map}
use Rattle.cost_terms.specs.Table.{Table}
use Rattle.sim_sweep.specs.declared.solving.Solving.TheVariants as variants
use Rattle.sim_sweep.proofs.solving.waiting.Given as goal

abbrev pub invariant-loop-tables : goal.invariant-loop-tables
invariant-loop-tables l = l.cases.items ++ map (λ (t : Table). variants.Waits t) l.tables.items ≡ map (λ (t : Table). variants.Waits t) l.initial.tables.items

abbrev pub decreases-loop-tables : goal.decreases-loop-tables
decreases-loop-tables l = length l.tables.items
