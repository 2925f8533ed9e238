use Rattle.std.proofs.Common.{◌≡◌, ◌++◌, take}
use Rattle.hourly_load.specs.Texts.{pairs}
use Rattle.hourly_load.proofs.text.push_pairs.Given as goal

abbrev pub invariant-loop-point : goal.invariant-loop-point
invariant-loop-point l = l.text.items ≡ l.initial.text.items ++ pairs (take l.point-index l.points)
