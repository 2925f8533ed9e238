-- What is said of the certificate of a CHECK, and what is learnt for it.
use Rattle.std.proofs.Common.{◌≡◌, subst, inr, ℕ, ◌<◌, ◌≤◌, List, [], ◌∷◌, length, arith}
use Rattle.cost_terms.specs.Table.{Table}
use Rattle.deck_check.specs.DeckFault.{HasNoFault}
use Rattle.deck_check.specs.Readings.{Says, cases, greatest, years}
use Rattle.deck_lines.specs.declared.line.CertLine.{CertLine}
use Rattle.plan_certificate.specs.Certificate.{CertData, IsVerdict}
use Rattle.plan_certificate.specs.Reading.{IsFormFault, IsSaidBy, ReadingsAreOne}
use Rattle.plan_certificate.specs.declared.judging.Verdict.{Verdict}
use Rattle.report_text.specs.declared.refusals.Refusal.{Refusal}
use Rattle.report_text.specs.declared.refusals.Refusal.TheVariants.{Deck, Wide, Many}
use Rattle.report_text.specs.declared.verdicts.Judged.TheVariants.{Form, Refused, Said}
use Rattle.sim_engine.specs.Engine.{Work}
use Rattle.tunnel_configs.specs.Listed.{ListingsAreOne}
use Rattle.deck_tellings.specs.Checks.{IsChecked, IsInForm, IsJudged, Open}
use Rattle.deck_tellings.specs.Inner.{HasTable}
use Rattle.case_study.specs.Inner.{IsOfLists}
use Rattle.deck_tellings.specs.Checks.{DemandsChecked}
use Rattle.case_study.specs.Keys.{DemandsUnder}
use Rattle.case_study.specs.Listings.{AreWithin, IsOverIn, Tunnels, deck_tunnels}
use Rattle.deck_tellings.specs.Memory.{MemoryIs}
use Rattle.deck_tellings.specs.Learning.{IsLost, Learns}
use Rattle.case_study.specs.Studies.{AreYearLists}
use Rattle.deck_tellings.proofs.LearnSteps.{learns_as, learns_none, lost_as}
use Rattle.deck_tellings.proofs.ListedKeys.{asks_case, case_asks, case_within}
use Rattle.deck_tellings.proofs.OverSteps.{over_not_case}
use Rattle.deck_tellings.proofs.TellBehind.{learns_by, lost_by}

-- ---- the form

-- what was read is said by the lines
pub said_is : (d : Says) (o : Open) (last wide : ℕ) (lines : List CertLine) (certificate : CertData) → last ≡ years d → wide ≡ length (greatest d) → lines ≡ o.certificate
    → IsSaidBy last wide lines certificate → IsSaidBy (years d) (length (greatest d)) o.certificate certificate
said_is d o last wide lines certificate of_years of_width of_lines said =
    subst (λ (n : ℕ). IsSaidBy n (length (greatest d)) o.certificate certificate) of_years
    (subst (λ (n : ℕ). IsSaidBy last n o.certificate certificate) of_width (subst (λ (ls : List CertLine). IsSaidBy last wide ls certificate) of_lines said))

-- lines that say a certificate are in form
pub in_form : ReadingsAreOne → (d : Says) (o : Open) (certificate : CertData) → o.case ≤ cases d → IsSaidBy (years d) (length (greatest d)) o.certificate certificate → IsInForm d o
in_form one d o certificate case said = record { case = case; form = λ i fault. one.apart (years d) (length (greatest d)) o.certificate i certificate fault said }

-- lines with a fault are not, as they were read
pub fault_is : (d : Says) (o : Open) (last wide : ℕ) (lines : List CertLine) (i : ℕ) → last ≡ years d → wide ≡ length (greatest d) → lines ≡ o.certificate
    → IsFormFault last wide lines i → IsFormFault (years d) (length (greatest d)) o.certificate i
fault_is d o last wide lines i of_years of_width of_lines fault =
    subst (λ (n : ℕ). IsFormFault n (length (greatest d)) o.certificate i) of_years
    (subst (λ (n : ℕ). IsFormFault last n o.certificate i) of_width (subst (λ (ls : List CertLine). IsFormFault last wide ls i) of_lines fault))

pub form_judged : (d : Says) (o : Open) (i : ℕ) → HasNoFault d → o.case ≤ cases d → IsFormFault (years d) (length (greatest d)) o.certificate i → IsJudged d o (Form i)
form_judged d o i faultless case fault = (faultless, inr (case, fault))

-- ---- what is learnt

-- nothing, where there is no such case
pub past_learns : {X : Type 0} (d : Says) (o : Open) (m : MemoryIs) (work : X → Work) (es : List X) → cases d < o.case → Learns (IsChecked d o) (DemandsChecked d o) d m m work es es 0
past_learns d o m work es past =
    learns_none (IsChecked d o) (DemandsChecked d o) d m work es (λ checked. absurd (omega (arith, past, checked.in_form.case))) (λ key demanded. absurd (omega (arith, past, demanded.0.in_form.case)))

-- or where a line has a fault
pub fault_learns : {X : Type 0} (d : Says) (o : Open) (i : ℕ) (m : MemoryIs) (work : X → Work) (es : List X) → IsFormFault (years d) (length (greatest d)) o.certificate i
    → Learns (IsChecked d o) (DemandsChecked d o) d m m work es es 0
fault_learns d o i m work es fault =
    learns_none (IsChecked d o) (DemandsChecked d o) d m work es (λ checked. checked.in_form.form i fault) (λ key demanded. demanded.0.in_form.form i fault)

-- what a case demands, where the certificate is in form
pub checked_learns : {X : Type 0} (d : Says) (o : Open) (case : ℕ) (m n : MemoryIs) (work : X → Work) (es fs : List X) → case ≡ o.case → HasNoFault d → IsInForm d o
    → Learns (AreWithin d case (deck_tunnels d case)) (DemandsUnder d case (deck_tunnels d case)) d m n work es fs 0 → Learns (IsChecked d o) (DemandsChecked d o) d m n work es fs 0
checked_learns d o case m n work es fs same faultless form l =
    let mine = subst (λ (c : ℕ). Learns (AreWithin d c (deck_tunnels d c)) (DemandsUnder d c (deck_tunnels d c)) d m n work es fs 0) same l in
    learns_by (AreWithin d o.case (deck_tunnels d o.case)) (IsChecked d o) (DemandsUnder d o.case (deck_tunnels d o.case)) (DemandsChecked d o) d m n work es fs 0
    (λ within. record { faultless = faultless; in_form = form; within = within })
    (λ key is. (record { faultless = faultless; in_form = form; within = is.0 }, is.1))
    (λ key is. (is.0.within, is.1)) mine

pub checked_lost : {X : Type 0} (d : Says) (o : Open) (case : ℕ) (m n : MemoryIs) (work : X → Work) (es fs : List X) → case ≡ o.case → HasNoFault d → IsInForm d o
    → IsLost (AreWithin d case (deck_tunnels d case)) (DemandsUnder d case (deck_tunnels d case)) d m n work es fs → IsLost (IsChecked d o) (DemandsChecked d o) d m n work es fs
checked_lost d o case m n work es fs same faultless form l =
    let mine = subst (λ (c : ℕ). IsLost (AreWithin d c (deck_tunnels d c)) (DemandsUnder d c (deck_tunnels d c)) d m n work es fs) same l in
    lost_by (AreWithin d o.case (deck_tunnels d o.case)) (IsChecked d o) (DemandsUnder d o.case (deck_tunnels d o.case)) (DemandsChecked d o) d m n work es fs
    (λ within. record { faultless = faultless; in_form = form; within = within })
    (λ key is. (record { faultless = faultless; in_form = form; within = is.0 }, is.1)) mine

-- what is learnt of the one case that is listed
pub case_learns : {X : Type 0} (d : Says) (c : ℕ) (tunnels : Tunnels) (lists : List (List (List ℕ))) (m n : MemoryIs) (work : X → Work) (es fs : List X) → 1 ≤ c → c ≤ cases d → AreYearLists d c tunnels lists
    → Learns (Unit {0}) (IsOfLists d (lists ∷ [])) d m n work es fs 0 → Learns (AreWithin d c tunnels) (DemandsUnder d c tunnels) d m n work es fs 0
case_learns d c tunnels lists m n work es fs low high are l =
    learns_as (AreWithin d c tunnels) (IsOfLists d (lists ∷ [])) (DemandsUnder d c tunnels) d m n work es fs 0 (case_within d c tunnels lists are)
    (λ key is. case_asks d c tunnels lists key low high are is) (λ key is. asks_case d c tunnels lists key are is) l

pub case_lost : {X : Type 0} (d : Says) (c : ℕ) (tunnels : Tunnels) (lists : List (List (List ℕ))) (m n : MemoryIs) (work : X → Work) (es fs : List X) → 1 ≤ c → c ≤ cases d → AreYearLists d c tunnels lists
    → IsLost (Unit {0}) (IsOfLists d (lists ∷ [])) d m n work es fs → IsLost (AreWithin d c tunnels) (DemandsUnder d c tunnels) d m n work es fs
case_lost d c tunnels lists m n work es fs low high are l =
    lost_as (AreWithin d c tunnels) (IsOfLists d (lists ∷ [])) (DemandsUnder d c tunnels) d m n work es fs (case_within d c tunnels lists are)
    (λ key is. case_asks d c tunnels lists key low high are is) l

-- and nothing of one over a limit
pub over_learns : {X : Type 0} (d : Says) (c : ℕ) (tunnels : Tunnels) (r : Refusal) (m : MemoryIs) (work : X → Work) (es : List X) → ListingsAreOne → IsOverIn d c tunnels r
    → Learns (AreWithin d c tunnels) (DemandsUnder d c tunnels) d m m work es es 0
over_learns d c tunnels r m work es one over =
    learns_none (AreWithin d c tunnels) (DemandsUnder d c tunnels) d m work es (λ within. over_not_case one d c tunnels r over within) (λ key demanded. over_not_case one d c tunnels r over demanded.0)

-- ---- what is said

pub over_judged : (d : Says) (o : Open) (case : ℕ) (r : Refusal) → case ≡ o.case → HasNoFault d → IsInForm d o → IsOverIn d case (deck_tunnels d case) r → IsJudged d o (Refused r)
over_judged d o case (Deck fault) same faultless form over = absurd over.over
over_judged d o case (Wide c year n) same faultless form over = (faultless, form, subst (λ (k : ℕ). IsOverIn d k (deck_tunnels d k) (Wide c year n)) same over)
over_judged d o case (Many c year n) same faultless form over = (faultless, form, subst (λ (k : ℕ). IsOverIn d k (deck_tunnels d k) (Many c year n)) same over)

pub verdict_judged : (d : Says) (o : Open) (case : ℕ) (certificate : CertData) (table : Table) (verdict : Verdict) → case ≡ o.case → HasNoFault d → IsInForm d o
    → IsSaidBy (years d) (length (greatest d)) o.certificate certificate → HasTable d case (deck_tunnels d case) table → IsVerdict table certificate verdict → IsJudged d o (Said verdict)
verdict_judged d o case certificate table verdict same faultless form said has is_verdict =
    let mine : HasTable d o.case (deck_tunnels d o.case) table = subst (λ (k : ℕ). HasTable d k (deck_tunnels d k) table) same has in
    (faultless, form, mine.within, record { table = table; is_table = mine.is; certificate = certificate; is_said = said; is_verdict = is_verdict })
