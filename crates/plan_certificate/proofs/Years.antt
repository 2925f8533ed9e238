-- The entries of one year, and one arrival.
use Rattle.std.proofs.Common.{◌≡◌, ◌≢◌, ◌↔◌, ℕ, zero, suc, ◌+◌, ◌-◌, ◌<◌, ◌≤◌, Bool, false, true, List, length, get_or, Option, Some, None, IsTrue, sym, ap, ◌∙◌, arith, refl, subst, true≢false, ⊎_elim}
use Rattle.std.proofs.lemmas.Bool.{cases_eq}
use Rattle.std.proofs.lemmas.List.{get_or_default}
use Rattle.cost_terms.specs.Table.{Table}
use Rattle.cost_terms.specs.declared.entries.Scored.{Scored}
use Rattle.cost_terms.specs.declared.prices.CostData.{CostData}
use Rattle.plan_program.specs.Plans.{entry_at, layer_at, no_entry}
use Rattle.plan_certificate.specs.Certificate.{CertData, IsAtMostLast, IsNoneIn, Says, named_in}
use Rattle.plan_certificate.specs.Steps.{ArrivalKeeps, KeepsFromFirst, arrival, name_at, no_name}
use Rattle.plan_certificate.specs.declared.certificate.Named.{Named}
use Rattle.plan_certificate.specs.declared.steps.Arrival.{Arrival}
use Rattle.plan_certificate.specs.declared.steps.Rule.{Rule}
use Rattle.plan_certificate.proofs.Aligned.{named_at}

pub false_is : {P : Type 0} → (P → ⊥) → IsTrue false ↔ P
false_is never = (λ f. absurd (true≢false (sym f)), λ p. absurd (never p))

pub true_is : {P : Type 0} → P → IsTrue true ↔ P
true_is p = (λ _. p, λ _. refl)

-- what a test that failed says
pub not_so : {P : Type 0} → IsTrue false ↔ P → P → ⊥
not_so h p = true≢false (sym (h.1 p))

-- one place more
pub more_below : {P : ℕ → Type 0} (n : ℕ) → ((k : ℕ) → k < n → P k) → P n → (k : ℕ) → k < n + 1 → P k
more_below {P} n h last k b = ⊎_elim (λ same. subst P (sym same) last) (λ other. h k (omega (arith, b, other))) (cases_eq k n)

said_name : (c : CertData) (k : ℕ) (config : List ℕ) (value : Option ℕ) → Says c k config value → (i : ℕ) × (i < length (named_in c k)) × ((name_at (named_in c k) i).value ≡ value)
said_name c k config value (i, b, is) =
    let x : Named = record { config = config; value = value } in
    (i, b, ap (λ (m : Named). m.value) (get_or_default (named_in c k) i no_name x b ∙ is))

pub none_in : (c : CertData) (year : ℕ) (names : List Named) → names ≡ named_in c (year - 1) → 1 ≤ year → ((i : ℕ) → i < length names → (name_at names i).value ≡ None) → IsNoneIn c year
none_in c year names e some h k config value n said =
    let place : year - 1 ≡ k = omega (arith, n) in
    let e' : names ≡ named_in c k = e ∙ ap (λ m. named_in c m) place in
    let p = said_name c k config value said in
    sym p.2 ∙ subst (λ (xs : List Named). p.0 < length xs → (name_at xs p.0).value ≡ None) e' (h p.0) p.1

pub none_back : (c : CertData) (year : ℕ) (names : List Named) → names ≡ named_in c (year - 1) → 1 ≤ year → IsNoneIn c year → (i : ℕ) → i < length names → (name_at names i).value ≡ None
none_back c year names e some h =
    subst (λ (xs : List Named). (i : ℕ) → i < length xs → (name_at xs i).value ≡ None) (sym e)
    (λ i b. h (year - 1) (name_at (named_in c (year - 1)) i).config (name_at (named_in c (year - 1)) i).value (omega (arith, some)) (named_at c (year - 1) i (name_at (named_in c (year - 1)) i).config b refl))

pub last_in : (c : CertData) (total : ℕ) (names : List Named) → names ≡ named_in c (c.years - 1) → 1 ≤ c.years → ((i value : ℕ) → i < length names → (name_at names i).value ≡ Some value → total ≤ value) → IsAtMostLast c total
last_in c total names e some h k config value n said =
    let place : c.years - 1 ≡ k = omega (arith, n) in
    let e' : names ≡ named_in c k = e ∙ ap (λ m. named_in c m) place in
    let p = said_name c k config (Some value) said in
    subst (λ (xs : List Named). p.0 < length xs → (name_at xs p.0).value ≡ Some value → total ≤ value) e' (h p.0 value) p.1 p.2

pub last_back : (c : CertData) (total : ℕ) (names : List Named) → names ≡ named_in c (c.years - 1) → 1 ≤ c.years → IsAtMostLast c total → (i value : ℕ) → i < length names → (name_at names i).value ≡ Some value → total ≤ value
last_back c total names e some h =
    subst (λ (xs : List Named). (i value : ℕ) → i < length xs → (name_at xs i).value ≡ Some value → total ≤ value) (sym e)
    (λ i value b v. h (c.years - 1) (name_at (named_in c (c.years - 1)) i).config value (omega (arith, some))
    (subst (λ (o : Option ℕ). Says c (c.years - 1) (name_at (named_in c (c.years - 1)) i).config o) v (named_at c (c.years - 1) i (name_at (named_in c (c.years - 1)) i).config b refl)))

-- an arrival after the first year
pub arrival_later : (rule : Rule) (t : Table) (c : CertData) (year : ℕ) (a : Arrival) (r : Bool) (economy : CostData) (layer : List Scored) (names : List Named) → year ≢ 0 → economy ≡ t.economy → layer ≡ layer_at t (year - 1) → names ≡ named_in c (year - 1) →
    IsTrue r ↔ KeepsFromFirst rule economy layer names (length layer) a → IsTrue r ↔ ArrivalKeeps rule t c year a
arrival_later rule t c zero a r economy layer names some e f g h = absurd (some refl)
arrival_later rule t c (suc k) a r economy layer names some e f g h =
    let before : suc k - 1 ≡ k = omega arith in
    let f' : layer ≡ layer_at t k = f ∙ ap (λ n. layer_at t n) before in
    let g' : names ≡ named_in c k = g ∙ ap (λ n. named_in c n) before in
    subst (λ (X : Type 0). IsTrue r ↔ X) (λ i. KeepsFromFirst rule (e i) (f' i) (g' i) (length (f' i)) a) h

-- the arrival at a place of a year's layer
pub arrival_is : (t : Table) (c : CertData) (k j : ℕ) (economy : CostData) (layer : List Scored) (names : List Named) (e : Scored) (n : Named) (to : Arrival) → economy ≡ t.economy → layer ≡ layer_at t k → names ≡ named_in c k →
    e ≡ entry_at layer j → n ≡ name_at names j → to ≡ arrival economy k e n.value → to ≡ arrival t.economy k (entry_at (layer_at t k) j) (name_at (named_in c k) j).value
arrival_is t c k j economy layer names e n to q l m es ns h =
    let e' : e ≡ entry_at (layer_at t k) j = es ∙ ap (λ (xs : List Scored). entry_at xs j) l in
    let n' : n ≡ name_at (named_in c k) j = ns ∙ ap (λ (xs : List Named). name_at xs j) m in
    h ∙ (λ i. arrival (q i) k (e' i) (n' i).value)
