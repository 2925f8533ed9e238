use Rattle.std.proofs.Common.{rules}
use Rattle.std.proofs.lemmas.Fn.{always_returns_same}
use Rattle.plan_certificate.specs.Gathered.{key}
use Rattle.plan_certificate.proofs.gathered.sort_names.Goals as goal

pub returns-clause-sorted : goal.returns-clause-sorted
returns-clause-sorted c = c.sort_unstable_by_key.ensures.sorted key (always_returns_same _ _ _ (λ a r g h. search rules))
