use Rattle.std.proofs.Common.{◌≡◌, ◌^◌, ◌≤◌, take}
use Rattle.year_system.specs.System.{size}
use Rattle.deck_check.proofs.candidates.are_many.Given as goal

abbrev pub invariant-loop-count : goal.invariant-loop-count
invariant-loop-count l = (l.size ≡ size (take l.count-index l.greatest)) × (l.size ≤ 2 ^ 50)
