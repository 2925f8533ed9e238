use Rattle.std.proofs.Common.{◌≡◌, ◌-◌, refl, inl, inr, ap, ◌∙◌, subst}
use Rattle.plan_certificate.specs.Certificate.{Costs, named_in}
use Rattle.plan_certificate.proofs.Years.{last_back, last_in, not_so}
use Rattle.plan_certificate.proofs.judging.judge_plan.Goals as goal

pub returns-then-not-is_at_most_all : goal.returns-then-not-is_at_most_all
returns-then-not-is_at_most_all c =
    let cert = c.args.certificate.now in
    let costs = subst (λ x. Costs c.args.table.now c.args.chosen.now x) c.if-cost-total.false c.in-Some.ensures.some.1 in
    let names : c.named-last.result.now ≡ named_in cert (cert.years - 1) = c.named-last.ensures.value ∙ ap (λ n. named_in cert (n - 1)) c.years.ensures.value in
    inr (c.in-Some.ensures.some.0, inr (costs, inl (λ h. not_so c.if-not-is_at_most_all.ensures (last_back cert c.args.total c.named-last.result.now names c.requires.valid.years.0 h), refl)))

pub returns : goal.returns
returns c =
    let cert = c.args.certificate.now in
    let costs = subst (λ x. Costs c.args.table.now c.args.chosen.now x) c.if-cost-total.false c.in-Some.ensures.some.1 in
    let names : c.named-last.result.now ≡ named_in cert (cert.years - 1) = c.named-last.ensures.value ∙ ap (λ n. named_in cert (n - 1)) c.years.ensures.value in
    inr (c.in-Some.ensures.some.0, inr (costs, inr (last_in cert c.args.total c.named-last.result.now names c.requires.valid.years.0 (c.if-not-is_at_most_all.ensures.0 refl), refl)))
