use Rattle.std.proofs.Common.{◌≡◌, take}
use Rattle.year_system.specs.System.{greatest_peak}
use Rattle.year_system.proofs.limits.greatest_peak.Given as goal

abbrev pub invariant-loop-load : goal.invariant-loop-load
invariant-loop-load l = l.most ≡ greatest_peak (take l.load-index l.loads)
