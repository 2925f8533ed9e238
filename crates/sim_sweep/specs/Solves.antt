-- Cases that are solved at once. This program's own.
use Rattle.std.specs.Prelude.{◌≡◌}
use Rattle.sim_sweep.specs.declared.solving.Solving.{Solving}
use Rattle.sim_sweep.specs.declared.solving.Solving.TheVariants.{Solved, Waits, Wanting}

-- a case that waited is solved, or memory was wanting
abbrev pub Solves : Solving → Solving → Type 0
Solves (Waits t) (Solved d) = d.table ≡ t
Solves (Waits t) Wanting = Unit {0}
Solves (Waits t) (Waits u) = ⊥
Solves (Solved d) after = Unit {0}
Solves Wanting after = Unit {0}
