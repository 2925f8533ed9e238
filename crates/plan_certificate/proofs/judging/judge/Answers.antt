use Rattle.std.proofs.Common.{◌≡◌, refl, inl, inr, subst}
use Rattle.plan_program.specs.declared.solved.Outcome.{Outcome}
use Rattle.plan_certificate.specs.Certificate.{IsVerdict, IsVerdictOn}
use Rattle.plan_certificate.specs.declared.judging.Verdict.{Verdict}
use Rattle.plan_certificate.proofs.Aligned.{bounds_rule, reached_rule, rule_bounds, rule_reached}
use Rattle.plan_certificate.proofs.Sound.{yes_true}
use Rattle.plan_certificate.proofs.Years.{not_so}
use Rattle.plan_certificate.proofs.judging.judge.Goals as goal

pub returns-then-not-rule_holds-clause-verdict : goal.returns-then-not-rule_holds-clause-verdict
returns-then-not-rule_holds-clause-verdict c =
    let t = c.args.table.now in
    let cert = c.args.certificate.now in
    inr (c.if-not-names_accepted.ensures.named.0 refl, inl (λ b. not_so c.if-not-rule_holds.ensures (bounds_rule t cert b), refl))

pub returns-then-not-rule_holds-2-clause-verdict : goal.returns-then-not-rule_holds-2-clause-verdict
returns-then-not-rule_holds-2-clause-verdict c =
    let t = c.args.table.now in
    let cert = c.args.certificate.now in
    inr (c.if-not-names_accepted.ensures.named.0 refl, inr (rule_bounds t cert (c.if-not-rule_holds.ensures.0 refl), inl (λ b. not_so c.if-not-rule_holds-2.ensures (reached_rule t cert b), refl)))

pub returns-clause-verdict : goal.returns-clause-verdict
returns-clause-verdict c =
    let t = c.args.table.now in
    let cert = c.args.certificate.now in
    inr (
      c.if-not-names_accepted.ensures.named.0 refl,
      inr (
        rule_bounds t cert (c.if-not-rule_holds.ensures.0 refl),
        inr (
          rule_reached t cert (c.if-not-rule_holds-2.ensures.0 refl),
          subst (λ (o : Outcome). IsVerdictOn t cert o c.judge_claim.result) c.claim-claim.ensures.value c.judge_claim.ensures,
        ),
      ),
    )

pub returns-clause-yes : goal.returns-clause-yes
returns-clause-yes c = λ y.
    let t = c.args.table.now in
    let cert = c.args.certificate.now in
    yes_true t cert c.if-not-names_accepted.ensures.valid c.claim-claim.ensures.valid c.requires.years
    (subst (λ (v : Verdict). IsVerdict t cert v) y
    (inr (
      c.if-not-names_accepted.ensures.named.0 refl,
      inr (
        rule_bounds t cert (c.if-not-rule_holds.ensures.0 refl),
        inr (
          rule_reached t cert (c.if-not-rule_holds-2.ensures.0 refl),
          subst (λ (o : Outcome). IsVerdictOn t cert o c.judge_claim.result) c.claim-claim.ensures.value c.judge_claim.ensures,
        ),
      ),
    )))
