-- What is said of a certificate is one.
use Rattle.std.proofs.Common.{◌≡◌, ℕ, ◌⊎◌, length, sym, ap, ◌∙◌, arith, refl, subst, inl, inr}
use Rattle.cost_terms.specs.Table.{Table}
use Rattle.deck_check.specs.DeckFault.{HasNoFault, IsFaultOf}
use Rattle.deck_check.specs.Readings.{Says, greatest, years}
use Rattle.deck_check.specs.declared.fault.DeckFault.{DeckFault}
use Rattle.deck_check.proofs.Single.{met, single}
use Rattle.plan_certificate.specs.Certificate.{IsVerdict}
use Rattle.plan_certificate.specs.declared.judging.Verdict.{Verdict}
use Rattle.plan_certificate.proofs.Readings.{readings}
use Rattle.plan_certificate.proofs.SaidVerdicts.{said_one}
use Rattle.report_text.specs.declared.refusals.Refusal.{Refusal}
use Rattle.report_text.specs.declared.refusals.Refusal.TheVariants.{Deck, Wide, Many}
use Rattle.report_text.specs.declared.verdicts.Judged.{Judged}
use Rattle.report_text.specs.declared.verdicts.Judged.TheVariants.{Refused, Form, Said}
use Rattle.tunnel_configs.specs.Listed.{ListingsAreOne}
use Rattle.case_study.proofs.OnenessReports.{over_in_apart, over_in_one, table_one}
use Rattle.deck_tellings.specs.Checks.{IsFormFaultOf, IsInForm, IsJudged, IsVerdictOf, Open}
use Rattle.case_study.specs.Listings.{AreWithin, IsOverIn, deck_tunnels}
use Rattle.wasp_session.specs.Oneness.{JudgementsAreOne}

-- something is so and is what is said, or it cannot be and the rest decides
abbrev Branch : {X : Type 0} → (X → Type 0) → (X → Judged) → Type 0 → (Judged → Type 0) → Judged → Type 0
Branch {X} Is told Not rest j = ((x : X) × Is x × (j ≡ told x)) ⊎ (Not × rest j)

branch_one : {X : Type 0} (Is : X → Type 0) (told : X → Judged) (Not : Type 0) (rest : Judged → Type 0) (j k : Judged) → ((x y : X) → Is x → Is y → x ≡ y) → ((x : X) → Is x → Not → ⊥) → (rest j → rest k → j ≡ k)
    → Branch Is told Not rest j → Branch Is told Not rest k → j ≡ k
branch_one Is told Not rest j k one apart on (inl (x, is, at)) (inl (y, is', at')) = at ∙ (ap told (one x y is is') ∙ sym at')
branch_one Is told Not rest j k one apart on (inl (x, is, at)) (inr (never, more)) = absurd (apart x is never)
branch_one Is told Not rest j k one apart on (inr (never, more)) (inl (y, is, at)) = absurd (apart y is never)
branch_one Is told Not rest j k one apart on (inr (never, more)) (inr (never', more')) = on more more'

-- a judgement in its order: the deck's fault, the form, the limits, the verdict
abbrev Verdicts : Says → Open → Judged → Type 0
Verdicts d o j = (v : Verdict) × IsVerdictOf d o v × (j ≡ Said v)

abbrev Limits : Says → Open → Judged → Type 0
Limits d o j = Branch (IsOverIn d o.case (deck_tunnels d o.case)) (λ (r : Refusal). Refused r) (AreWithin d o.case (deck_tunnels d o.case)) (Verdicts d o) j

abbrev Forms : Says → Open → Judged → Type 0
Forms d o j = Branch (IsFormFaultOf d o) (λ (i : ℕ). Form i) (IsInForm d o) (Limits d o) j

abbrev Decks : Says → Open → Judged → Type 0
Decks d o j = Branch (IsFaultOf d) (λ (f : DeckFault). Refused (Deck f)) (HasNoFault d) (Forms d o) j

in_order : (d : Says) (o : Open) (j : Judged) → IsJudged d o j → Decks d o j
in_order d o (Refused (Deck f)) h = inl (f, h, refl)
in_order d o (Form i) h = inr (h.0, inl (i, h.1, refl))
in_order d o (Refused (Wide c t n)) h = inr (h.0, inr (h.1, inl (Wide c t n, h.2, refl)))
in_order d o (Refused (Many c t n)) h = inr (h.0, inr (h.1, inl (Many c t n, h.2, refl)))
in_order d o (Said v) h = inr (h.0, inr (h.1, inr (h.2, (v, h.3, refl))))

form_one : (d : Says) (o : Open) (i j : ℕ) → IsFormFaultOf d o i → IsFormFaultOf d o j → i ≡ j
form_one d o i j (inl a) (inl b) = a.1 ∙ sym b.1
form_one d o i j (inl a) (inr b) = absurd (omega (arith, a.0, b.0))
form_one d o i j (inr a) (inl b) = absurd (omega (arith, a.0, b.0))
form_one d o i j (inr a) (inr b) = readings.faults (years d) (length (greatest d)) o.certificate i j a.1 b.1

form_apart : (d : Says) (o : Open) (i : ℕ) → IsFormFaultOf d o i → IsInForm d o → ⊥
form_apart d o i (inl a) form = absurd (omega (arith, a.0, form.case))
form_apart d o i (inr a) form = form.form i a.1

verdict_one : ListingsAreOne → (d : Says) (o : Open) (v w : Verdict) → IsVerdictOf d o v → IsVerdictOf d o w → v ≡ w
verdict_one one d o v w a b =
    let table : a.table ≡ b.table = table_one one d o.case (deck_tunnels d o.case) a.table b.table a.is_table b.is_table in
    said_one a.table (years d) (length (greatest d)) o.certificate a.certificate b.certificate v w a.is_said b.is_said a.is_verdict (subst (λ (t : Table). IsVerdict t b.certificate w) (sym table) b.is_verdict)

pub one_judgement : ListingsAreOne → JudgementsAreOne
one_judgement one d o x y a b =
    branch_one (IsFaultOf d) (λ (f : DeckFault). Refused (Deck f)) (HasNoFault d) (Forms d o) x y (single d) (met d)
    (branch_one (IsFormFaultOf d o) (λ (i : ℕ). Form i) (IsInForm d o) (Limits d o) x y (form_one d o) (form_apart d o)
    (branch_one (IsOverIn d o.case (deck_tunnels d o.case)) (λ (r : Refusal). Refused r) (AreWithin d o.case (deck_tunnels d o.case)) (Verdicts d o) x y
    (over_in_one one d o.case (deck_tunnels d o.case)) (over_in_apart one d o.case (deck_tunnels d o.case))
    (λ v w. v.2 ∙ (ap (λ (u : Verdict). Said u) (verdict_one one d o v.0 w.0 v.1 w.1) ∙ sym w.2))))
    (in_order d o x a) (in_order d o y b)
