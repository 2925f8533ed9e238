-- Certificates that say the same have the same verdict.
use Rattle.std.proofs.Common.{◌≡◌, ℕ, zero, suc, List, Option, Some, None, sym, ◌∙◌, subst, inl, inr}
use Rattle.cost_terms.specs.Table.{Table}
use Rattle.plan_program.specs.declared.solved.Outcome.{Outcome}
use Rattle.plan_program.specs.declared.solved.Outcome.TheVariants.{Plan, Infeasible}
use Rattle.plan_certificate.specs.Certificate.{AreBounds, CertData, Costs, First, HasPlanOver, IsAtMostLast, IsNoneIn, IsVerdict, IsVerdictOn, IsYes, NamesAccepted, NoneAfterNone, Precedes, Says}
use Rattle.plan_certificate.specs.Reading.{SaidVerdictsAreOne}
use Rattle.plan_certificate.specs.declared.judging.Verdict.{Verdict}
use Rattle.plan_certificate.proofs.Readings.{one_claim}

-- one certificate says what the other says
record SayAlike (c d : CertData) : Type 0 where
  years : c.years ≡ d.years
  to : (k : ℕ) (config : List ℕ) (value : Option ℕ) → Says c k config value → Says d k config value
  back : (k : ℕ) (config : List ℕ) (value : Option ℕ) → Says d k config value → Says c k config value

turned : (c d : CertData) → SayAlike c d → SayAlike d c
turned c d a = record { years = sym a.years; to = a.back; back = a.to }

precedes : (t : Table) (c d : CertData) → SayAlike c d → (k : ℕ) (config before : List ℕ) (from : Option ℕ) → Precedes t c k config before from → Precedes t d k config before from
precedes t c d a zero config before from p = p
precedes t c d a (suc k) config before from p = (p.0, p.1, a.to k before from p.2)

names : (t : Table) (c d : CertData) → SayAlike c d → NamesAccepted t c → NamesAccepted t d
names t c d a n = record {
  only = λ k config value s. n.only k config value (a.back k config value s);
  all = λ k config accepted. let s = n.all k config accepted in (s.0, a.to k config s.0 s.1);
}

bounds : (t : Table) (c d : CertData) → SayAlike c d → AreBounds t c → AreBounds t d
bounds t c d a b k e before from value h s p = b k e before from value h (a.back k e.config (Some value) s) (precedes t d c (turned c d a) k e.config before (Some from) p)

none_after : (t : Table) (c d : CertData) → SayAlike c d → NoneAfterNone t c → NoneAfterNone t d
none_after t c d a n k e before from h s p = n k e before from h (a.back k e.config None s) (precedes t d c (turned c d a) k e.config before from p)

at_most_last : (c d : CertData) → SayAlike c d → (total : ℕ) → IsAtMostLast c total → IsAtMostLast d total
at_most_last c d a total m k config value last s = m k config value (last ∙ sym a.years) (a.back k config (Some value) s)

none_in : (c d : CertData) → SayAlike c d → (year : ℕ) → IsNoneIn c year → IsNoneIn d year
none_in c d a year n k config value at s = n k config value at (a.back k config value s)

-- a condition that is met alike
first : (number : ℕ) (A B : Type 0) (rest more : Verdict → Type 0) (v : Verdict) → (A → B) → (B → A) → (rest v → more v) → First number A rest v → First number B more v
first number A B rest more v to back on (inl fails) = inl (λ b. fails.0 (back b), fails.1)
first number A B rest more v to back on (inr holds) = inr (to holds.0, on holds.1)

verdict_on : (t : Table) (c d : CertData) → SayAlike c d → (o : Outcome) (v : Verdict) → IsVerdictOn t c o v → IsVerdictOn t d o v
verdict_on t c d a (Plan chosen total) v h =
    let last = first 6 (IsAtMostLast c total) (IsAtMostLast d total) IsYes IsYes v (at_most_last c d a total) (at_most_last d c (turned c d a) total) (λ y. y) in
    let five = first 5 (Costs t chosen total) (Costs t chosen total) (First 6 (IsAtMostLast c total) IsYes) (First 6 (IsAtMostLast d total) IsYes) v (λ x. x) (λ x. x) last in
    first 4 (HasPlanOver t chosen) (HasPlanOver t chosen) (First 5 (Costs t chosen total) (First 6 (IsAtMostLast c total) IsYes)) (First 5 (Costs t chosen total) (First 6 (IsAtMostLast d total) IsYes)) v (λ x. x) (λ x. x) five h
verdict_on t c d a (Infeasible year) v h =
    first 7 (IsNoneIn c year) (IsNoneIn d year) IsYes IsYes v (none_in c d a year) (none_in d c (turned c d a) year) (λ y. y) h

verdict : (t : Table) (c d : CertData) → SayAlike c d → c.claim ≡ d.claim → (v : Verdict) → IsVerdict t c v → IsVerdict t d v
verdict t c d a claim v h =
    let back = turned c d a in
    let on = λ (h : IsVerdictOn t c c.claim v). subst (λ (o : Outcome). IsVerdictOn t d o v) claim (verdict_on t c d a c.claim v h) in
    let three = first 3 (NoneAfterNone t c) (NoneAfterNone t d) (IsVerdictOn t c c.claim) (IsVerdictOn t d d.claim) v (none_after t c d a) (none_after t d c back) on in
    let two = first 2 (AreBounds t c) (AreBounds t d) (First 3 (NoneAfterNone t c) (IsVerdictOn t c c.claim)) (First 3 (NoneAfterNone t d) (IsVerdictOn t d d.claim)) v (bounds t c d a) (bounds t d c back) three in
    first 1 (NamesAccepted t c) (NamesAccepted t d) (First 2 (AreBounds t c) (First 3 (NoneAfterNone t c) (IsVerdictOn t c c.claim))) (First 2 (AreBounds t d) (First 3 (NoneAfterNone t d) (IsVerdictOn t d d.claim))) v (names t c d a) (names t d c back) two h

-- ---- one verdict

yes_one : (v w : Verdict) → IsYes v → IsYes w → v ≡ w
yes_one v w a b = a ∙ sym b

first_one : (number : ℕ) (A : Type 0) (rest : Verdict → Type 0) (v w : Verdict) → (rest v → rest w → v ≡ w) → First number A rest v → First number A rest w → v ≡ w
first_one number A rest v w on (inl x) (inl y) = x.1 ∙ sym y.1
first_one number A rest v w on (inl x) (inr y) = absurd (x.0 y.0)
first_one number A rest v w on (inr x) (inl y) = absurd (y.0 x.0)
first_one number A rest v w on (inr x) (inr y) = on x.1 y.1

on_one : (t : Table) (c : CertData) (o : Outcome) (v w : Verdict) → IsVerdictOn t c o v → IsVerdictOn t c o w → v ≡ w
on_one t c (Plan chosen total) v w a b =
    first_one 4 (HasPlanOver t chosen) (First 5 (Costs t chosen total) (First 6 (IsAtMostLast c total) IsYes)) v w
    (first_one 5 (Costs t chosen total) (First 6 (IsAtMostLast c total) IsYes) v w (first_one 6 (IsAtMostLast c total) IsYes v w (yes_one v w))) a b
on_one t c (Infeasible year) v w a b = first_one 7 (IsNoneIn c year) IsYes v w (yes_one v w) a b

one : (t : Table) (c : CertData) (v w : Verdict) → IsVerdict t c v → IsVerdict t c w → v ≡ w
one t c v w a b =
    first_one 1 (NamesAccepted t c) (First 2 (AreBounds t c) (First 3 (NoneAfterNone t c) (IsVerdictOn t c c.claim))) v w
    (first_one 2 (AreBounds t c) (First 3 (NoneAfterNone t c) (IsVerdictOn t c c.claim)) v w (first_one 3 (NoneAfterNone t c) (IsVerdictOn t c c.claim) v w (on_one t c c.claim v w))) a b

pub said_one : SaidVerdictsAreOne
said_one t years width lines c d v w a b x y =
    let alike : SayAlike d c = record {
      years = b.same_years ∙ sym a.same_years;
      to = λ k config value s. (a.entries k config value).1 ((b.entries k config value).0 s);
      back = λ k config value s. (b.entries k config value).1 ((a.entries k config value).0 s);
    } in
    one t c v w x (verdict t d c alike (one_claim years width lines a.form d.claim c.claim b.claim a.claim) w y)
