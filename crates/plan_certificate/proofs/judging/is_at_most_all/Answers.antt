use Rattle.std.proofs.Common.{◌≡◌, ℕ, ◌<◌, ◌≤◌, arith, sym, ap, ◌∙◌}
use Rattle.std.proofs.lemmas.List.{get_or_default}
use Rattle.plan_certificate.specs.Steps.{name_at, no_name}
use Rattle.plan_certificate.specs.declared.certificate.Named.{Named}
use Rattle.plan_certificate.proofs.Years.{false_is}
use Rattle.plan_certificate.proofs.judging.is_at_most_all.Goals as goal

below : (x y : ℕ) → x < y → y ≤ x → ⊥
below x y h g = omega (arith, h, g)

pub returns-then-value-total : goal.returns-then-value-total
returns-then-value-total c =
    let n = c.loop-name.name-index in
    let at : c.name-item.result ≡ name_at c.args.names.now n = c.name-item.is ∙ get_or_default c.args.names.now n c.name-item.result no_name c.loop-name-test.true in
    false_is (λ h. below c.in-Some.value c.args.total c.if-value-total.true (h n c.in-Some.value c.loop-name-test.true (sym (ap (λ (m : Named). m.value) at) ∙ c.in-Some.is)))
