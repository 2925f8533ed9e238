use Rattle.std.proofs.Common.{refl, inl, inr}
use Rattle.plan_certificate.proofs.Years.{none_back, none_in, not_so}
use Rattle.plan_certificate.proofs.judging.judge_infeasible.Goals as goal

pub returns-then-not-are_none : goal.returns-then-not-are_none
returns-then-not-are_none c = inl (λ h. not_so c.if-not-are_none.ensures (none_back c.args.certificate.now c.args.year c.named.result.now c.named.ensures.value c.requires.first h), refl)

pub returns : goal.returns
returns c = inr (none_in c.args.certificate.now c.args.year c.named.result.now c.named.ensures.value c.requires.first (c.if-not-are_none.ensures.0 refl), refl)
