use Rattle.std.proofs.Common.{◌≡◌, ℕ, ◌<◌}
use Rattle.std.specs.Prelude.{codes}
use Rattle.report_text.specs.Marks.{mark_at}
use Rattle.tunnel_search.proofs.moving.is_inside.Given as goal

abbrev pub invariant-loop-k : goal.invariant-loop-k
invariant-loop-k l = (i : ℕ) → i < l.k → mark_at l.greatest l.tunnel l.chosen i ≡ codes "."
