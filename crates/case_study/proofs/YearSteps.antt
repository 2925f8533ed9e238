-- A year of a chosen plan: what a run writes, the system of the year, and what fits it.
use Rattle.std.proofs.Common.{◌≡◌, ◌∙◌, ap, sym, subst, ℕ, ◌+◌, ◌<◌, ◌≤◌, List, [], ◌∷◌, ◌++◌, Some, add-one, length, map, take, get_or, slice_get, arith}
use Rattle.std.proofs.lemmas.List.{get_or_default, length-map, length-take-le, map-append, take_more}
use Rattle.std.proofs.lemmas.Option.{same_Some, slice_get-get_or, slice_get_within}
use Rattle.cost_terms.specs.CostData.{Fits as FitsCosts, greatest as candidate_counts}
use Rattle.cost_terms.specs.Table.{Table}
use Rattle.cost_terms.specs.declared.prices.CostData.{CostData}
use Rattle.plant_data.specs.Configs.{IsAtMost}
use Rattle.cost_terms.specs.declared.entries.Scored.{Scored}
use Rattle.deck_check.specs.Readings as says
use Rattle.checked_deck.specs.Systems.{system}
use Rattle.deck_check.specs.Readings.{Says, years}
use Rattle.plan_program.specs.Chosen.{IsPlanOf}
use Rattle.plan_program.specs.Plans.{layer_at}
use Rattle.report_text.specs.declared.data.PlanYear.{PlanYear}
use Rattle.case_study.proofs.PlanSteps.{before_at, last_more, last_of, place_is}
use Rattle.case_study.specs.Inner.{HasPlace, IsPlacedAt}
use Rattle.case_study.specs.Studies.{HasYears, IsYearSystem}
use Rattle.year_system.specs.System.{Fits, System, greatest}

-- the number of a year's system is one of the book's
pub number_within : (d : Says) (book : List System) (ids list : List ℕ) (k : ℕ) → HasYears d book ids → k < years d → list ≡ ids → get_or list k 0 < length book
number_within d book ids list k has within same =
    let at = has.each k (get_or ids k 0) (slice_get-get_or ids k 0 (omega (arith, within, has.many))) in
    subst (λ (xs : List ℕ). get_or xs k 0 < length book) (sym same) (slice_get_within book (get_or ids k 0) (system d (k + 1)) at)

-- what it numbers is the system of the year
pub year_system_is : (d : Says) (book : List System) (ids list : List ℕ) (k : ℕ) (s : System) → HasYears d book ids → k < years d → list ≡ ids → slice_get book (get_or list k 0) ≡ Some s → IsYearSystem d (k + 1) s
year_system_is d book ids list k s has within of_list at =
    let there = has.each k (get_or ids k 0) (slice_get-get_or ids k 0 (omega (arith, within, has.many))) in
    let here : slice_get book (get_or ids k 0) ≡ Some s = subst (λ (xs : List ℕ). slice_get book (get_or xs k 0) ≡ Some s) of_list at in
    let same : s ≡ system d (k + 1) = same_Some s (system d (k + 1)) (sym here ∙ there) in
    record { is = same; width = subst (λ (z : System). greatest z ≡ says.greatest d) (sym same) (has.width k within) }

pub year_fits : (d : Says) (book : List System) (ids list : List ℕ) (k : ℕ) (s : System) (counts : List ℕ) → HasYears d book ids → k < years d → list ≡ ids → slice_get book (get_or list k 0) ≡ Some s
    → Fits (system d (k + 1)) counts → Fits s counts
year_fits d book ids list k s counts has within of_list at fits =
    let year = year_system_is d book ids list k s has within of_list at in
    subst (λ (z : System). Fits z counts) (sym year.is) fits

-- an entry of the deck's economy fits the system of a year
pub entry_fits : (e : CostData) (s : System) (most counts : List ℕ) → candidate_counts e ≡ most → greatest s ≡ most → FitsCosts e counts → Fits s counts
entry_fits e s most counts of_costs of_system fits =
    let same : candidate_counts e ≡ greatest s = of_costs ∙ sym of_system in
    record { width = fits.width ∙ ap length same; most = subst (IsAtMost counts) same fits.most }

-- the configurations of the years, and one more
pub configs_more : (ys : List PlanYear) (y : PlanYear) (xs : List (List ℕ)) (k : ℕ) → k < length xs → map (λ (z : PlanYear). z.config) ys ≡ take k xs → y.config ≡ get_or xs k []
    → map (λ (z : PlanYear). z.config) (ys ++ y ∷ []) ≡ take (k + 1) xs
configs_more ys y xs k within so_far is =
    map-append (λ (z : PlanYear). z.config) ys (y ∷ []) ∙ ap (λ (zs : List (List ℕ)). zs ++ y.config ∷ []) so_far ∙ ap (λ (x : List ℕ). take k xs ++ x ∷ []) is ∙ sym (take_more xs k [] within)

-- how many years there are
pub years_long : (ys : List PlanYear) (xs : List (List ℕ)) (k : ℕ) → k ≤ length xs → map (λ (z : PlanYear). z.config) ys ≡ take k xs → length ys ≡ k
years_long ys xs k within so_far = sym (length-map ys (λ (z : PlanYear). z.config)) ∙ ap length so_far ∙ length-take-le k xs within

-- what is read at a place
pub read_at : {X : Type 0} (xs ys : List X) (k : ℕ) (x d : X) → ys ≡ xs → k < length xs → x ≡ get_or ys k x → x ≡ get_or xs k d
read_at xs ys k x d same within at = at ∙ ap (λ zs. get_or zs k x) same ∙ get_or_default xs k x d within

-- the layer of a year has the year's configuration
pub year_place : (table : Table) (shown : List (List ℕ)) (total k : ℕ) (layer : List Scored) (counts : List ℕ) → IsPlanOf table shown total → k < length shown
    → layer ≡ layer_at table k → counts ≡ get_or shown k [] → HasPlace layer counts
year_place table shown total k layer counts is within same at =
    subst (λ (es : List Scored). HasPlace es counts) (sym same) (subst (HasPlace (layer_at table k)) (sym at) (place_is table shown total k is within))

pub placed_in : (table : Table) (k : ℕ) (layer : List Scored) (counts : List ℕ) (e : Scored) → layer ≡ layer_at table k → IsPlacedAt layer counts e → IsPlacedAt (layer_at table k) counts e
placed_in table k layer counts e same is = subst (λ (es : List Scored). IsPlacedAt es counts e) same is

-- what stands before the next year
pub before_more : (start : List ℕ) (xs : List (List ℕ)) (k : ℕ) (x : List ℕ) → x ≡ get_or xs k [] → x ≡ before_at start xs (k + 1)
before_more start xs k x at = at ∙ ap (before_at start xs) (sym (add-one k))

pub last_is : (start : List ℕ) (ys : List PlanYear) (y : PlanYear) (x : List ℕ) → x ≡ y.config → x ≡ last_of start (ys ++ y ∷ [])
last_is start ys y x same = same ∙ sym (last_more start ys y)
