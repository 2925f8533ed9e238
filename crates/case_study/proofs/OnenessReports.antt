-- Refusals and reports are one.
use Rattle.std.proofs.Common.{◌≡◌, ℕ, ◌+◌, ◌<◌, List, [], ◌∷◌, length, get_or, map, drop, sym, ap, ◌∙◌, arith, refl, subst, ⊎_elim}
use Rattle.std.proofs.lemmas.Bool.{cases_eq, cases_lt}
use Rattle.checked_deck.specs.Economy.{costs}
use Rattle.checked_deck.specs.Systems.{system}
use Rattle.checked_deck.specs.TypedDeck.{limit, margin}
use Rattle.cost_terms.specs.Cost.{fuel, nothing_built, unserved, upkeep}
use Rattle.cost_terms.specs.Table.{Table}
use Rattle.cost_terms.specs.declared.entries.Scored.{Scored}
use Rattle.deck_check.specs.Readings.{Says, years}
use Rattle.deck_check.specs.declared.fault.DeckFault.{DeckFault}
use Rattle.deck_check.proofs.Single.{met, single}
use Rattle.plan_program.specs.Chosen.{IsSolution}
use Rattle.plan_program.specs.Plans.{layer_at}
use Rattle.plan_program.specs.declared.solved.Solved.{Solved}
use Rattle.plan_program.proofs.OneSolution.{one_solution}
use Rattle.plant_data.specs.declared.row.Tunnel.{Tunnel}
use Rattle.report_text.specs.Report.{plan_of}
use Rattle.report_text.specs.declared.data.PlanYear.{PlanYear}
use Rattle.report_text.specs.declared.refusals.Refusal.{Refusal}
use Rattle.report_text.specs.declared.refusals.Refusal.TheVariants.{Deck, Wide, Many}
use Rattle.row_shelf.specs.Tables.{accepted_of}
use Rattle.sim_engine.specs.Row.{row_of}
use Rattle.tunnel_configs.specs.Listed.{ListingsAreOne}
use Rattle.wasp_fixed.proofs.Lists.{list_ext}
use Rattle.case_study.specs.Case.{AreYearsFrom, IsLayerOf, IsTableOf, IsYearOf, built_of, generations_of, ran_of}
use Rattle.case_study.specs.Listings.{AreWithin, IsFirstOver, IsOf, IsOver, IsOverIn, IsRefusalOf, IsTaken, IsWithin, Tunnels, deck_tunnels, tunnel_at}
use Rattle.case_study.specs.Oneness.{RefusalsAreOne, ReportsAreOne}

-- ---- refusals

-- a case and year over a limit are not within it
over_not_within : ListingsAreOne → (d : Says) (c t : ℕ) (n : Tunnel) (r : Refusal) → IsOver d c t n r → IsWithin d c t n → ⊥
over_not_within one d c t n (Deck fault) over within = over
over_not_within one d c t n (Wide case year many) over within =
    let wide = over.2 in
    absurd (omega (arith, wide.box, wide.wide, within.fair.narrow))
over_not_within one d c t n (Many case year many) over within =
    let long = over.2 in
    let same = one (system d t) n (margin d c t) long.listed.configs within.configs long.listed.listing within.fair.listing in
    absurd (omega (arith, ap length same, long.listed.many, long.long, within.fair.few))

over_one : ListingsAreOne → (d : Says) (c t : ℕ) (n : Tunnel) (r s : Refusal) → IsOver d c t n r → IsOver d c t n s → r ≡ s
over_one one d c t n (Deck f) s a b = absurd a
over_one one d c t n (Wide case year m) (Deck f) a b = absurd b
over_one one d c t n (Many case year m) (Deck f) a b = absurd b
over_one one d c t n (Wide case year m) (Wide case' year' m') a b =
    let cases : case ≡ case' = a.0 ∙ sym b.0 in
    let years : year ≡ year' = a.1 ∙ sym b.1 in
    let sizes : m ≡ m' = sym a.2.box ∙ b.2.box in
    λ i. Wide (cases i) (years i) (sizes i)
over_one one d c t n (Wide case year m) (Many case' year' m') a b = absurd (omega (arith, a.2.box, a.2.wide, b.2.narrow))
over_one one d c t n (Many case year m) (Wide case' year' m') a b = absurd (omega (arith, b.2.box, b.2.wide, a.2.narrow))
over_one one d c t n (Many case year m) (Many case' year' m') a b =
    let x = a.2.listed in
    let y = b.2.listed in
    let cases : case ≡ case' = a.0 ∙ sym b.0 in
    let years : year ≡ year' = a.1 ∙ sym b.1 in
    let sizes : m ≡ m' = sym x.many ∙ (ap length (one (system d t) n (margin d c t) x.configs y.configs x.listing y.listing) ∙ y.many) in
    λ i. Many (cases i) (years i) (sizes i)

-- within a case
pub over_in_one : ListingsAreOne → (d : Says) (c : ℕ) (tunnels : Tunnels) (r s : Refusal) → IsOverIn d c tunnels r → IsOverIn d c tunnels s → r ≡ s
over_in_one one d c tunnels r s a b =
    ⊎_elim
    (λ less. absurd (over_not_within one d c a.year (tunnel_at tunnels a.year) r a.over (b.earlier a.year a.is_of.year.0 less)))
    (λ above. ⊎_elim
    (λ same. over_one one d c a.year (tunnel_at tunnels a.year) r s a.over (subst (λ t. IsOver d c t (tunnel_at tunnels t) s) same b.over))
    (λ other. absurd (over_not_within one d c b.year (tunnel_at tunnels b.year) s b.over (a.earlier b.year b.is_of.year.0 (omega (arith, above, other)))))
    (cases_eq b.year a.year))
    (cases_lt a.year b.year)

pub over_in_apart : ListingsAreOne → (d : Says) (c : ℕ) (tunnels : Tunnels) (r : Refusal) → IsOverIn d c tunnels r → AreWithin d c tunnels → ⊥
over_in_apart one d c tunnels r over within =
    over_not_within one d c over.year (tunnel_at tunnels over.year) r over.over (within over.year over.is_of.year.0 over.is_of.year.1)

first_one : ListingsAreOne → (d : Says) (r s : Refusal) → IsFirstOver d r → IsFirstOver d s → r ≡ s
first_one one d r s a b =
    let first : IsOf d a.case a.over.year = a.over.is_of in
    let other : IsOf d b.case b.over.year = b.over.is_of in
    ⊎_elim
    (λ less. absurd (over_in_apart one d a.case (deck_tunnels d a.case) r a.over (b.earlier a.case first.case.0 less)))
    (λ above. ⊎_elim
    (λ same. over_in_one one d a.case (deck_tunnels d a.case) r s a.over (subst (λ c. IsOverIn d c (deck_tunnels d c) s) same b.over))
    (λ apart. absurd (over_in_apart one d b.case (deck_tunnels d b.case) s b.over (a.earlier b.case other.case.0 (omega (arith, above, apart)))))
    (cases_eq b.case a.case))
    (cases_lt a.case b.case)

refusal_one : ListingsAreOne → (d : Says) (r s : Refusal) → IsRefusalOf d r → IsRefusalOf d s → r ≡ s
refusal_one one d (Deck f) (Deck g) a b = ap (λ (x : DeckFault). Deck x) (single d f g a b)
refusal_one one d (Deck f) (Wide c t n) a b = absurd (met d f a b.0)
refusal_one one d (Deck f) (Many c t n) a b = absurd (met d f a b.0)
refusal_one one d (Wide c t n) (Deck f) a b = absurd (met d f b a.0)
refusal_one one d (Many c t n) (Deck f) a b = absurd (met d f b a.0)
refusal_one one d (Wide c t n) (Wide c' t' n') a b = first_one one d (Wide c t n) (Wide c' t' n') a.1 b.1
refusal_one one d (Wide c t n) (Many c' t' n') a b = first_one one d (Wide c t n) (Many c' t' n') a.1 b.1
refusal_one one d (Many c t n) (Wide c' t' n') a b = first_one one d (Many c t n) (Wide c' t' n') a.1 b.1
refusal_one one d (Many c t n) (Many c' t' n') a b = first_one one d (Many c t n) (Many c' t' n') a.1 b.1

first_apart : ListingsAreOne → (d : Says) (r : Refusal) → IsFirstOver d r → IsTaken d → ⊥
first_apart one d r first taken =
    let is_of : IsOf d first.case first.over.year = first.over.is_of in
    over_in_apart one d first.case (deck_tunnels d first.case) r first.over (taken.within first.case is_of.case.0 is_of.case.1)

refusal_apart : ListingsAreOne → (d : Says) (r : Refusal) → IsRefusalOf d r → IsTaken d → ⊥
refusal_apart one d (Deck f) a taken = met d f a taken.faultless
refusal_apart one d (Wide c t n) a taken = first_apart one d (Wide c t n) a.1 taken
refusal_apart one d (Many c t n) a taken = first_apart one d (Many c t n) a.1 taken

pub one_refusal : ListingsAreOne → RefusalsAreOne
one_refusal one = record { one = refusal_one one; apart = refusal_apart one }

-- ---- tables

layer_one : ListingsAreOne → (d : Says) (c t : ℕ) (tunnels : Tunnels) (x y : List Scored) → IsLayerOf d c t tunnels x → IsLayerOf d c t tunnels y → x ≡ y
layer_one one d c t tunnels x y a b =
    let same = one (system d t) (tunnel_at tunnels t) (margin d c t) a.configs b.configs a.listing b.listing in
    a.is ∙ (ap (λ (configs : List (List ℕ)). accepted_of (system d t) (limit d c t) configs) same ∙ sym b.is)

pub table_one : ListingsAreOne → (d : Says) (c : ℕ) (tunnels : Tunnels) (x y : Table) → IsTableOf d c tunnels x → IsTableOf d c tunnels y → x ≡ y
table_one one d c tunnels x y a b =
    let economy : x.economy ≡ y.economy = a.economy ∙ sym b.economy in
    let layers : x.layers ≡ y.layers = list_ext [] x.layers y.layers (a.many ∙ sym b.many) (λ k h.
    let inside : k < years d = omega (arith, h, a.many) in
    layer_one one d c (k + 1) tunnels (layer_at x k) (layer_at y k) (a.layers k inside) (b.layers k inside)) in
    λ i. record { economy = economy i; layers = layers i }

-- ---- planned years

year_one : (d : Says) (t : ℕ) (tunnels : Tunnels) (before : List ℕ) (x y : PlanYear)
    → x.config ≡ y.config → IsYearOf d t tunnels before x → IsYearOf d t tunnels before y → x ≡ y
year_one d t tunnels before x y e a b =
    let at : x.tunnel ≡ y.tunnel = a.tunnel ∙ sym b.tunnel in
    let built : x.built ≡ y.built = a.built ∙ (ap (λ (g : List ℕ). built_of (costs d) t before g) e ∙ sym b.built) in
    let rows : x.row ≡ y.row = a.row ∙ (ap (λ (g : List ℕ). row_of (system d t) g) e ∙ sym b.row) in
    let terms : ran_of (costs d) t x ≡ ran_of (costs d) t y = λ i. record { fuel = fuel (costs d) t (rows i); upkeep = upkeep (costs d) t (e i) (rows i); unserved = unserved (costs d) t (rows i) } in
    let ran : x.ran ≡ y.ran = a.ran ∙ (terms ∙ sym b.ran) in
    let generated : x.generations ≡ y.generations = a.generations ∙ (ap (λ (g : List ℕ). generations_of d t g) e ∙ sym b.generations) in
    λ i. record { config = e i; tunnel = at i; built = built i; ran = ran i; row = rows i; generations = generated i }

years_one : (d : Says) (t : ℕ) (tunnels : Tunnels) (before : List ℕ) (xs ys : List PlanYear)
    → map (λ (y : PlanYear). y.config) xs ≡ map (λ (y : PlanYear). y.config) ys → AreYearsFrom d t tunnels before xs → AreYearsFrom d t tunnels before ys → xs ≡ ys
years_one d t tunnels before [] [] e a b = refl
years_one d t tunnels before [] (y ∷ ys) e a b = absurd (omega (arith, ap length e))
years_one d t tunnels before (x ∷ xs) [] e a b = absurd (omega (arith, ap length e))
years_one d t tunnels before (x ∷ xs) (y ∷ ys) e a b =
    let config : x.config ≡ y.config = ap (λ (gs : List (List ℕ)). get_or gs 0 []) e in
    let head : x ≡ y = year_one d t tunnels before x y config a.0 b.0 in
    let rest : xs ≡ ys = years_one d (t + 1) tunnels x.config xs ys (ap (λ (gs : List (List ℕ)). drop 1 gs) e) a.1 (subst (λ (g : List ℕ). AreYearsFrom d (t + 1) tunnels g ys) (sym config) b.1) in
    λ i. head i ∷ rest i

-- ---- reports

pub one_report : ListingsAreOne → ReportsAreOne
one_report one d c tunnels x y a b =
    let conditions : x.conditions ≡ y.conditions = a.conditions ∙ sym b.conditions in
    let counts : x.greatest ≡ y.greatest = a.greatest ∙ sym b.greatest in
    let table : x.table ≡ y.table = table_one one d c tunnels x.table y.table a.table b.table in
    let solved : x.solved ≡ y.solved = one_solution x.table x.solved y.solved a.solution (subst (λ (t : Table). IsSolution t y.solved) (sym table) b.solution) in
    let plans = a.plan ∙ (ap (λ (s : Solved). plan_of s.outcome) solved ∙ sym b.plan) in
    let years : x.years ≡ y.years = years_one d 1 tunnels (nothing_built (costs d)) x.years y.years plans a.years b.years in
    λ i. record { conditions = conditions i; greatest = counts i; table = table i; solved = solved i; years = years i }
