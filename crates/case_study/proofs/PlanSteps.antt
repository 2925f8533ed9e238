-- The years of a chosen plan: where its configurations stand in the layers, and one year more.
use Rattle.std.proofs.Common.{◌≡◌, ◌∙◌, ap, sym, refl, subst, ℕ, zero, suc, ◌+◌, ◌<◌, List, [], ◌∷◌, ◌++◌, All, Contains, length, map, get_or, slice_index_or, add-one, arith}
use Rattle.std.proofs.lemmas.List.{get_or-map, get_or-replicate, length-map, length-replicate}
use Rattle.std.proofs.lemmas.List.Elements.{All-filter, All-map}
use Rattle.cost_terms.specs.Cost.{nothing_built}
use Rattle.cost_terms.specs.Table.{IsEntry, IsTable, Table}
use Rattle.cost_terms.specs.declared.entries.Scored.{Scored}
use Rattle.cost_terms.specs.CostData.{greatest}
use Rattle.checked_deck.specs.Systems.{system}
use Rattle.deck_check.specs.Readings.{Says, years}
use Rattle.checked_deck.specs.TypedDeck.{limit}
use Rattle.plan_program.specs.Chosen.{IsPlanOf}
use Rattle.plan_program.specs.Plans.{configs, entry_at, layer_at, no_entry}
use Rattle.plant_data.specs.Configs.{IsAtMost}
use Rattle.plant_data.specs.declared.row.Limit.{Limit}
use Rattle.report_text.specs.declared.data.PlanYear.{PlanYear}
use Rattle.row_shelf.specs.Tables.{accepted_of}
use Rattle.sim_engine.specs.Row.{row_of}
use Rattle.sim_sweep.specs.Cases.{is_accepted}
use Rattle.case_study.specs.Case.{AreYearsFrom, IsTableOf, IsYearOf}
use Rattle.case_study.specs.Inner.{HasPlace, IsPlacedAt}
use Rattle.case_study.specs.Listings.{Tunnels}
use Rattle.year_system.specs.System.{System}

-- what stands before the year at a place: nothing is built before the first
abbrev pub before_at : List ℕ → List (List ℕ) → ℕ → List ℕ
before_at start xs zero = start
before_at start xs (suc k) = slice_index_or xs k []

-- what stands at the end of some years
abbrev pub last_of : List ℕ → List PlanYear → List ℕ
last_of before [] = before
last_of before (y ∷ ys) = last_of y.config ys

pub last_more : (before : List ℕ) (ys : List PlanYear) (y : PlanYear) → last_of before (ys ++ y ∷ []) ≡ y.config
last_more before [] y = refl
last_more before (z ∷ ys) y = last_more z.config ys y

-- one year more
pub years_more : (d : Says) (t n : ℕ) (tunnels : Tunnels) (before : List ℕ) (ys : List PlanYear) (y : PlanYear) → n ≡ t + length ys
    → AreYearsFrom d t tunnels before ys → IsYearOf d n tunnels (last_of before ys) y → AreYearsFrom d t tunnels before (ys ++ y ∷ [])
years_more d t n tunnels before [] y e h is =
    let same : n ≡ t = omega (arith, e) in
    (subst (λ m. IsYearOf d m tunnels before y) same is, tt)
years_more d t n tunnels before (z ∷ ys) y e h is =
    (h.0, years_more d (t + 1) n tunnels z.config ys y (omega (arith, e)) h.1 is)

-- each accepted configuration has its row
accepted_rows : (s : System) (l : Limit) (xs : List (List ℕ)) → All (λ e. e.row ≡ row_of s e.config) (accepted_of s l xs)
accepted_rows s l xs =
    All-filter (λ (e : Scored). is_accepted e.row l) (λ e. e.row ≡ row_of s e.config) (map (λ (x : List ℕ). record { config = x; row = row_of s x }) xs)
    (All-map (λ (e : Scored). e.row ≡ row_of s e.config) (λ (x : List ℕ). record { config = x; row = row_of s x }) xs (λ i d within. refl))

pub row_is : (d : Says) (c k : ℕ) (tunnels : Tunnels) (table : Table) (counts : List ℕ) (e : Scored) → IsTableOf d c tunnels table → k < years d → IsPlacedAt (layer_at table k) counts e
    → e.row ≡ row_of (system d (k + 1)) e.config
row_is d c k tunnels table counts e is within placed =
    let layer = is.layers k within in
    let rows = accepted_rows (system d (k + 1)) (limit d c (k + 1)) layer.configs in
    let all : All (λ z. z.row ≡ row_of (system d (k + 1)) z.config) (layer_at table k) = subst (All (λ z. z.row ≡ row_of (system d (k + 1)) z.config)) (sym layer.is) rows in
    subst (λ z. z.row ≡ row_of (system d (k + 1)) z.config) placed.is (all placed.place no_entry placed.within)

-- an entry of a layer is within its bounds
pub entry_is : (table : Table) (k : ℕ) (counts : List ℕ) (e : Scored) → IsTable table → k < length table.layers → IsPlacedAt (layer_at table k) counts e → IsEntry table.economy e
entry_is table k counts e is within placed =
    subst (IsEntry table.economy) placed.is (is.entries k [] within placed.place no_entry placed.within)

-- the configuration of a planned year stands in its layer
pub config_at : (plan : List Scored) (shown : List (List ℕ)) (k : ℕ) → shown ≡ configs plan → k < length plan → get_or shown k [] ≡ (entry_at plan k).config
config_at plan shown k e within = ap (λ (xs : List (List ℕ)). get_or xs k []) e ∙ get_or-map (λ (z : Scored). z.config) plan k no_entry [] within

pub length_is : (table : Table) (shown : List (List ℕ)) (total : ℕ) → IsPlanOf table shown total → length shown ≡ length table.layers
length_is table shown total is = ap length is.shown ∙ length-map is.plan (λ (z : Scored). z.config) ∙ is.is_chosen.whole

pub place_is : (table : Table) (shown : List (List ℕ)) (total k : ℕ) → IsPlanOf table shown total → k < length shown → HasPlace (layer_at table k) (get_or shown k [])
place_is table shown total k is within =
    let in_plan : k < length is.plan = omega (arith, within, ap length is.shown, length-map is.plan (λ (z : Scored). z.config)) in
    let at : Contains (layer_at table k) (entry_at is.plan k) = is.is_chosen.admissible.accepted k in_plan in
    let entry = entry_at is.plan k in
    record {
      place = at.0;
      within = at.1;
      is = ap (λ (z : Scored). z.config) (get_or_entry (layer_at table k) at.0 entry at.1 at.2) ∙ sym (config_at is.plan shown k is.shown in_plan);
    }
  where
    get_or_entry : (layer : List Scored) (i : ℕ) (e : Scored) → i < length layer → get_or layer i e ≡ e → entry_at layer i ≡ e
    get_or_entry [] i e b h = absurd (omega (arith, b))
    get_or_entry (z ∷ zs) zero e b h = h
    get_or_entry (z ∷ zs) (suc i) e b h = get_or_entry zs i e (omega (arith, b)) h

-- and holds what stood before it
grows_is : (table : Table) (shown : List (List ℕ)) (total k : ℕ) → IsPlanOf table shown total → k < length shown
    → IsAtMost (before_at (nothing_built table.economy) shown k) (get_or shown k [])
grows_is table shown total zero is within = λ i b.
    let many : length (nothing_built table.economy) ≡ length (greatest table.economy) = length-replicate (length (greatest table.economy)) 0 in
    let zeros : get_or (nothing_built table.economy) i 0 ≡ 0 = get_or-replicate (length (greatest table.economy)) i 0 0 (omega (arith, b, many)) in
    omega (arith, zeros)
grows_is table shown total (suc k) is within =
    let in_plan : suc k < length is.plan = omega (arith, within, ap length is.shown, length-map is.plan (λ (z : Scored). z.config)) in
    let next : IsAtMost (entry_at is.plan k).config (entry_at is.plan (k + 1)).config = is.is_chosen.admissible.grows k (omega (arith, in_plan)) in
    let up : IsAtMost (entry_at is.plan k).config (entry_at is.plan (suc k)).config = subst (λ (n : ℕ). IsAtMost (entry_at is.plan k).config (entry_at is.plan n).config) (add-one k) next in
    subst (λ (x : List ℕ). IsAtMost x (get_or shown (suc k) [])) (sym (config_at is.plan shown k is.shown (omega (arith, in_plan))))
    (subst (λ (x : List ℕ). IsAtMost (entry_at is.plan k).config x) (sym (config_at is.plan shown (suc k) is.shown in_plan)) up)

pub grows_from : (table : Table) (shown : List (List ℕ)) (total k : ℕ) (before counts : List ℕ) → IsPlanOf table shown total → k < length shown
    → before ≡ before_at (nothing_built table.economy) shown k → counts ≡ get_or shown k [] → IsAtMost before counts
grows_from table shown total k before counts is within stood at =
    subst (λ (x : List ℕ). IsAtMost x counts) (sym stood) (subst (IsAtMost (before_at (nothing_built table.economy) shown k)) (sym at) (grows_is table shown total k is within))
