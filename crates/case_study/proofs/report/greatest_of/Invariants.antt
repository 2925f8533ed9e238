use Rattle.std.proofs.Common.{◌≡◌, ◌<◌, ℕ, length, get_or}
use Rattle.year_system.specs.System.{greatest}
use Rattle.case_study.proofs.report.greatest_of.Given as goal

abbrev pub invariant-loop-k : goal.invariant-loop-k
invariant-loop-k l = (length l.counts ≡ length (greatest l.system)) × ((i : ℕ) → i < l.k → get_or l.counts i 0 ≡ get_or (greatest l.system) i 0)
