use Rattle.std.proofs.Common.{rules}
use Rattle.std.proofs.lemmas.Fn.{always_returns_same}
use Rattle.std.proofs.lemmas.List.Sorted.{IsNonDecreasingBy-from_sort}
use Rattle.plan_program.specs.declared.come.Start.{Start}
use Rattle.plan_program.proofs.come.sort_starts.Goals as goal

pub returns-clause-sorted : goal.returns-clause-sorted
returns-clause-sorted c = IsNonDecreasingBy-from_sort (λ (s : Start). s.potential) _ (c.sort_unstable_by_key.ensures.sorted (λ (s : Start). s.potential) (always_returns_same _ _ _ (λ a r g h. search rules)))
