use Rattle.std.proofs.Common.{◌≡◌, drop}
use Rattle.std.specs.List.{fold, zip}
use Rattle.year_system.specs.System.{greatest}
use Rattle.year_system.specs.Code.{index_of}
use Rattle.year_system.proofs.Radix.{digit}
use Rattle.year_system.proofs.codes.index_of.Given as goal

abbrev pub invariant-loop-k : goal.invariant-loop-k
invariant-loop-k l = fold digit l.index (drop l.k (zip (greatest l.system) l.config)) ≡ index_of (greatest l.system) l.config
