-- Lines say one certificate or have one first fault.
use Rattle.std.proofs.Common.{◌≡◌, ℕ, ◌-◌, ◌<◌, List, [], length, take, Contains, sym, ap, ◌∙◌, arith, subst, ⊎_elim, inl, inr}
use Rattle.std.proofs.lemmas.Bool.{cases_eq, cases_lt}
use Rattle.std.proofs.lemmas.List.{get_or-take, get_or_default, length-take-le}
use Rattle.deck_lines.specs.declared.line.CertLine.{CertLine}
use Rattle.deck_lines.specs.declared.line.CertLine.TheVariants.{Come, Chosen, Total, Infeasible}
use Rattle.plan_program.specs.declared.solved.Outcome.{Outcome}
use Rattle.plan_program.specs.declared.solved.Outcome.TheVariants as claims
use Rattle.wasp_fixed.proofs.Lists.{list_ext}
use Rattle.plan_certificate.specs.Certificate.{CertData, IsCertificate, named_in}
use Rattle.plan_certificate.specs.Reading.{AreInForm, IsClaimedBy, IsFaulty, IsFirstFault, IsFormFault, IsSaidBy, ReadingsAreOne, line_at, no_line}
use Rattle.plan_certificate.specs.Steps.{no_name}
use Rattle.plan_certificate.specs.declared.certificate.Named.{Named}
use Rattle.plan_certificate.proofs.Aligned.{names_rise, same_sorted}
use Rattle.plan_certificate.proofs.Lines.{year_of}

-- ---- faults

first_first : (years width : ℕ) (lines : List CertLine) (n m : ℕ) → IsFirstFault years width lines n → IsFirstFault years width lines m → n ≡ m
first_first years width lines n m a b =
    ⊎_elim
    (λ less. absurd (b.before (n - 1) (omega (arith, less, a.some)) a.faulty))
    (λ above. ⊎_elim (λ same. sym same) (λ other. absurd (a.before (m - 1) (omega (arith, above, other, b.some)) b.faulty)) (cases_eq m n))
    (cases_lt n m)

first_form : (years width : ℕ) (lines : List CertLine) (n : ℕ) → IsFirstFault years width lines n → AreInForm years width lines (length lines) → ⊥
first_form years width lines n a f = f (n - 1) (omega (arith, a.some, a.within)) a.faulty

one_fault : (years width : ℕ) (lines : List CertLine) (n m : ℕ) → IsFormFault years width lines n → IsFormFault years width lines m → n ≡ m
one_fault years width lines n m (inl a) (inl b) = first_first years width lines n m a b
one_fault years width lines n m (inl a) (inr b) = absurd (first_form years width lines n a b.all)
one_fault years width lines n m (inr a) (inl b) = absurd (first_form years width lines m b a.all)
one_fault years width lines n m (inr a) (inr b) = a.past ∙ sym b.past

apart_fault : (years width : ℕ) (lines : List CertLine) (n : ℕ) (c : CertData) → IsFormFault years width lines n → IsSaidBy years width lines c → ⊥
apart_fault years width lines n c (inl a) s = first_form years width lines n a s.form
apart_fault years width lines n c (inr a) s = a.incomplete s.complete

-- ---- certificates

-- of two lines without a fault the later is not faulty by the earlier
later_good : (years width : ℕ) (lines : List CertLine) → AreInForm years width lines (length lines) → (x y : CertLine) (i j : ℕ) → i < j → j < length lines → line_at lines i ≡ x → line_at lines j ≡ y → ((earlier : List CertLine) → Contains earlier x → IsFaulty years width earlier y) → ⊥
later_good years width lines f x y i j h b ex ey faulty =
    let in_take : Contains (take j lines) x = (i, omega (arith, h, length-take-le j lines (omega (arith, b))), get_or-take j lines i x h ∙ (get_or_default lines i x no_line (omega (arith, h, b)) ∙ ex)) in
    f j b (subst (λ (l : CertLine). IsFaulty years width (take j lines) l) (sym ey) (faulty (take j lines) in_take))

total_total : (years width : ℕ) (lines : List CertLine) → AreInForm years width lines (length lines) → (a b : ℕ) → Contains lines (Total a) → Contains lines (Total b) → a ≡ b
total_total years width lines f a b (i, bi, ei) (j, bj, ej) =
    let xi : line_at lines i ≡ Total a = get_or_default lines i no_line (Total a) bi ∙ ei in
    let xj : line_at lines j ≡ Total b = get_or_default lines j no_line (Total b) bj ∙ ej in
    ⊎_elim
    (λ less. absurd (later_good years width lines f (Total a) (Total b) i j less bj xi xj (λ earlier c. inl (a, c))))
    (λ above. ⊎_elim
    (λ same. ap number (sym xi ∙ (ap (λ k. line_at lines k) (sym same) ∙ xj)))
    (λ other. absurd (later_good years width lines f (Total b) (Total a) j i (omega (arith, above, other)) bi xj xi (λ earlier c. inl (b, c))))
    (cases_eq j i))
    (cases_lt i j)
  where
    number : CertLine → ℕ
    number (Come year config value) = 0
    number (Chosen year config) = 0
    number (Total total) = total
    number (Infeasible year) = 0

infeasible_infeasible : (years width : ℕ) (lines : List CertLine) → AreInForm years width lines (length lines) → (a b : ℕ) → Contains lines (Infeasible a) → Contains lines (Infeasible b) → a ≡ b
infeasible_infeasible years width lines f a b (i, bi, ei) (j, bj, ej) =
    let xi : line_at lines i ≡ Infeasible a = get_or_default lines i no_line (Infeasible a) bi ∙ ei in
    let xj : line_at lines j ≡ Infeasible b = get_or_default lines j no_line (Infeasible b) bj ∙ ej in
    ⊎_elim
    (λ less. absurd (later_good years width lines f (Infeasible a) (Infeasible b) i j less bj xi xj (λ earlier c. inr (inl (a, c)))))
    (λ above. ⊎_elim
    (λ same. ap year_of (sym xi ∙ (ap (λ k. line_at lines k) (sym same) ∙ xj)))
    (λ other. absurd (later_good years width lines f (Infeasible b) (Infeasible a) j i (omega (arith, above, other)) bi xj xi (λ earlier c. inr (inl (b, c)))))
    (cases_eq j i))
    (cases_lt i j)

total_infeasible : (years width : ℕ) (lines : List CertLine) → AreInForm years width lines (length lines) → (a b : ℕ) → Contains lines (Total a) → Contains lines (Infeasible b) → ⊥
total_infeasible years width lines f a b (i, bi, ei) (j, bj, ej) =
    let xi : line_at lines i ≡ Total a = get_or_default lines i no_line (Total a) bi ∙ ei in
    let xj : line_at lines j ≡ Infeasible b = get_or_default lines j no_line (Infeasible b) bj ∙ ej in
    ⊎_elim
    (λ less. later_good years width lines f (Total a) (Infeasible b) i j less bj xi xj (λ earlier c. inr (inr (inr (a, c)))))
    (λ above. ⊎_elim
    (λ same. omega (arith, ap kind (sym xi ∙ (ap (λ k. line_at lines k) (sym same) ∙ xj))))
    (λ other. later_good years width lines f (Infeasible b) (Total a) j i (omega (arith, above, other)) bi xj xi (λ earlier c. inr (b, c)))
    (cases_eq j i))
    (cases_lt i j)
  where
    kind : CertLine → ℕ
    kind (Come year config value) = 0
    kind (Chosen year config) = 1
    kind (Total total) = 2
    kind (Infeasible year) = 3

pub one_claim : (years width : ℕ) (lines : List CertLine) → AreInForm years width lines (length lines) → (a b : Outcome) → IsClaimedBy lines a → IsClaimedBy lines b → a ≡ b
one_claim years width lines f (claims.Plan xs total) (claims.Plan ys other) a b =
    let configs : xs ≡ ys = a.0 ∙ sym b.0 in
    let totals : total ≡ other = total_total years width lines f total other a.1 b.1 in
    λ i. claims.Plan (configs i) (totals i)
one_claim years width lines f (claims.Plan xs total) (claims.Infeasible year) a b = absurd (total_infeasible years width lines f total year a.1 b)
one_claim years width lines f (claims.Infeasible year) (claims.Plan xs total) a b = absurd (total_infeasible years width lines f total year b.1 a)
one_claim years width lines f (claims.Infeasible year) (claims.Infeasible other) a b = ap (λ y. claims.Infeasible y) (infeasible_infeasible years width lines f year other a b)

one_certificate : (years width : ℕ) (lines : List CertLine) (c d : CertData) → IsCertificate c → IsCertificate d → IsSaidBy years width lines c → IsSaidBy years width lines d → c ≡ d
one_certificate years width lines c d v w a b =
    let ys : c.years ≡ d.years = a.same_years ∙ sym b.same_years in
    let ws : c.width ≡ d.width = a.same_width ∙ sym b.same_width in
    let n : length c.entries ≡ length d.entries = v.each_year ∙ (ys ∙ sym w.each_year) in
    let entries : c.entries ≡ d.entries = list_ext [] c.entries d.entries n (λ k h.
    same_sorted no_name (λ (m : Named). m.config) (named_in c k) (named_in d k) (names_rise c v k h) (names_rise d w k (omega (arith, h, n)))
    (λ z s. (b.entries k z.config z.value).1 ((a.entries k z.config z.value).0 s))
    (λ z s. (a.entries k z.config z.value).1 ((b.entries k z.config z.value).0 s))) in
    let claim : c.claim ≡ d.claim = one_claim years width lines a.form c.claim d.claim a.claim b.claim in
    λ i. record { years = ys i; width = ws i; entries = entries i; claim = claim i }

pub readings : ReadingsAreOne
readings = record { certificates = one_certificate; faults = one_fault; apart = apart_fault }
