-- A plan of a round is admissible behind it.
use Rattle.std.proofs.Common.{◌≡◌, ◌∙◌, ap, sym, refl, subst, ℕ, ◌+◌, ◌-◌, ◌<◌, ◌≤◌, ◌⊎◌, inl, inr, ⊎_elim, Bool, true, false, All, Contains, List, [], ◌∷◌, filter, length, map, arith}
use Rattle.std.proofs.lemmas.Bool.{false≢true}
use Rattle.std.proofs.lemmas.List.Elements.{All-contains, All-filter, All-map}
use Rattle.std.proofs.lemmas.List.FromFn.{get_or-map-range_with_len}
use Rattle.checked_deck.specs.Systems.{system}
use Rattle.checked_deck.specs.TypedDeck.{limit}
use Rattle.cost_terms.specs.Table.{Table, plan_cost}
use Rattle.cost_terms.specs.declared.entries.Scored.{Scored}
use Rattle.cost_terms.specs.declared.prices.CostData.{CostData}
use Rattle.deck_check.specs.Readings.{Says, greatest, years}
use Rattle.plan_program.specs.Chosen.{IsNoWorse}
use Rattle.plan_program.specs.Plans.{IsAdmissible, entry_at, layer_at}
use Rattle.plant_data.specs.Tunnels.{IsTunnelOf}
use Rattle.plant_data.specs.declared.row.Limit.{Limit}
use Rattle.plant_data.specs.declared.row.Tunnel.{Tunnel}
use Rattle.report_text.specs.declared.rounds.Found.{Found}
use Rattle.row_shelf.specs.Tables.{accepted_of}
use Rattle.row_shelf.proofs.AskSteps.{in_map}
use Rattle.row_shelf.proofs.KeySteps.{in_cases, in_none, in_rest}
use Rattle.sim_engine.specs.Row.{row_of}
use Rattle.sim_sweep.specs.Cases.{is_accepted}
use Rattle.tunnel_configs.specs.Listed.{IsInTunnel}
use Rattle.tunnel_search.specs.Search.{ArePlaced, config_of, moved_tunnel, tunnel_of}
use Rattle.tunnel_search.proofs.MovedTunnels.{moved_contains}
use Rattle.case_study.specs.Case.{IsTableOf}
use Rattle.wasp_session.specs.Descent.{CostsNeverRise}
use Rattle.case_study.specs.Listings.{AreTunnels, IsListedOf, Tunnels, tunnel_at}
use Rattle.deck_tellings.specs.Rounds.{IsFound, tunnels_behind}
use Rattle.deck_tellings.proofs.OnePlan.{no_admissible}
use Rattle.case_study.proofs.PlanSteps.{config_at}
use Rattle.deck_tellings.proofs.RoundSteps.{accepted_in, placed_of}
use Rattle.year_system.specs.System.{System}

-- ---- what a filter keeps

pass_in : {X : Type 0} (p : X → Bool) (x e : X) (xs : List X) (b : Bool) → p x ≡ b → p e ≡ true → (x ≡ e) ⊎ Contains (filter p xs) e → Contains (filter p (x ∷ xs)) e
pass_in p x e xs true h is (inl here) = rw h (0, omega arith, here)
pass_in p x e xs true h is (inr rest) = rw h (in_rest x (filter p xs) e rest)
pass_in p x e xs false h is (inl here) = absurd (false≢true (sym h ∙ ap p here ∙ is))
pass_in p x e xs false h is (inr rest) = rw h rest

filter_in : {X : Type 0} (p : X → Bool) (xs : List X) (e : X) → p e ≡ true → Contains xs e → Contains (filter p xs) e
filter_in p [] e is has = absurd (in_none e has)
filter_in p (x ∷ xs) e is has = pass_in p x e xs (p x) refl is (⊎_elim (λ here. inl here) (λ rest. inr (filter_in p xs e is rest)) (in_cases x xs e has))

pass_out : {X : Type 0} (p : X → Bool) (x e : X) (xs : List X) (b : Bool) → p x ≡ b → (Contains (filter p xs) e → p e ≡ true) → Contains (filter p (x ∷ xs)) e → p e ≡ true
pass_out p x e xs true h behind has = ⊎_elim (λ here. ap p (sym here) ∙ h) behind (in_cases x (filter p xs) e (rw h at has))
pass_out p x e xs false h behind has = behind (rw h at has)

filter_out : {X : Type 0} (p : X → Bool) (xs : List X) (e : X) → Contains (filter p xs) e → p e ≡ true
filter_out p [] e has = absurd (in_none e has)
filter_out p (x ∷ xs) e has = pass_out p x e xs (p x) refl (filter_out p xs e) has

-- ---- accepted ones of two lists

entry_row : (s : System) (l : Limit) (xs : List (List ℕ)) → All (λ e. e.row ≡ row_of s e.config) (accepted_of s l xs)
entry_row s l xs =
    All-filter (λ (e : Scored). is_accepted e.row l) (λ e. e.row ≡ row_of s e.config) (map (λ (x : List ℕ). record { config = x; row = row_of s x }) xs)
    (All-map (λ (e : Scored). e.row ≡ row_of s e.config) (λ (x : List ℕ). record { config = x; row = row_of s x }) xs (λ i d within. refl))

accepted_too : (s : System) (l : Limit) (xs ys : List (List ℕ)) (e : Scored) → Contains (accepted_of s l xs) e → Contains ys e.config → Contains (accepted_of s l ys) e
accepted_too s l xs ys e has listed =
    let f : List ℕ → Scored = λ x. record { config = x; row = row_of s x } in
    let row : e.row ≡ row_of s e.config = All-contains (λ (z : Scored). z.row ≡ row_of s z.config) (accepted_of s l xs) e (entry_row s l xs) has in
    let same : f e.config ≡ e = λ i. record { config = e.config; row = sym row i } in
    filter_in (λ (z : Scored). is_accepted z.row l) (map f ys) e (filter_out (λ (z : Scored). is_accepted z.row l) (map f xs) e has)
    (subst (Contains (map f ys)) same (in_map f ys e.config listed))

-- ---- behind a round with a plan

-- the chosen configuration of a year is listed for the year behind it
listed_behind : (d : Says) (c : ℕ) (f : Found) (k : ℕ) → ArePlaced (greatest d) f.tunnels f.configs → k < length f.tunnels
    → IsListedOf d c (k + 1) (tunnel_at f.tunnels (k + 1)) (config_of f.configs k) → IsListedOf d c (k + 1) (tunnel_at (tunnels_behind d f) (k + 1)) (config_of f.configs k)
listed_behind d c f k placed lt listed =
    let g : ℕ → Tunnel = λ n. moved_tunnel (greatest d) (tunnel_of f.tunnels n) (config_of f.configs n) in
    let at : tunnel_of (tunnels_behind d f) k ≡ g k = get_or-map-range_with_len g 0 (length f.tunnels) k k (record { least = []; width = [] }) lt (omega arith) in
    let fits : IsTunnelOf (greatest d) (tunnel_of f.tunnels k) = placed.fit k (record { least = []; width = [] }) lt in
    let there : IsInTunnel (g k) (config_of f.configs k) = moved_contains (greatest d) (tunnel_of f.tunnels k) (config_of f.configs k) fits (placed.within k lt) in
    let here : IsInTunnel (tunnel_of (tunnels_behind d f) k) (config_of f.configs k) = subst (λ (t : Tunnel). IsInTunnel t (config_of f.configs k)) (sym at) there in
    let same : k ≡ k + 1 - 1 = omega arith in
    record { tunnel = subst (λ (n : ℕ). IsInTunnel (tunnel_of (tunnels_behind d f) n) (config_of f.configs k)) same here; margin = listed.margin }

-- its entry is accepted there
accepted_behind : (d : Says) (c : ℕ) (f : Found) (is : IsFound d c f) (next : Table) (k : ℕ) → ArePlaced (greatest d) f.tunnels f.configs → k < length f.tunnels → k < years d
    → k < length is.is_plan.plan → IsTableOf d c (tunnels_behind d f) next → Contains (layer_at next k) (entry_at is.is_plan.plan k)
accepted_behind d c f is next k placed lt inside within behind =
    let plan = is.is_plan.plan in
    let e = entry_at plan k in
    let one = is.is_table.layers k inside in
    let other = behind.layers k inside in
    let has : Contains (accepted_of (system d (k + 1)) (limit d c (k + 1)) one.configs) e =
    subst (λ (layer : List Scored). Contains layer e) one.is (is.is_plan.is_chosen.admissible.accepted k within) in
    let its : Contains one.configs e.config =
    All-contains (λ (z : Scored). Contains one.configs z.config) (accepted_of (system d (k + 1)) (limit d c (k + 1)) one.configs) e (accepted_in (system d (k + 1)) (limit d c (k + 1)) one.configs) has in
    let shown : config_of f.configs k ≡ e.config = config_at plan f.configs k is.is_plan.shown within in
    let listed : IsListedOf d c (k + 1) (tunnel_at f.tunnels (k + 1)) (config_of f.configs k) =
    subst (IsListedOf d c (k + 1) (tunnel_at f.tunnels (k + 1))) (sym shown) ((one.listing.each e.config).0 its) in
    let now : IsListedOf d c (k + 1) (tunnel_at (tunnels_behind d f) (k + 1)) e.config =
    subst (IsListedOf d c (k + 1) (tunnel_at (tunnels_behind d f) (k + 1))) shown (listed_behind d c f k placed lt listed) in
    subst (λ (layer : List Scored). Contains layer e) (sym other.is)
    (accepted_too (system d (k + 1)) (limit d c (k + 1)) one.configs other.configs e has ((other.listing.each e.config).1 now))

-- the chosen plan is admissible there
plan_behind : (d : Says) (c : ℕ) (f : Found) (is : IsFound d c f) (next : Table) → AreTunnels d f.tunnels → IsTableOf d c (tunnels_behind d f) next
    → IsAdmissible next is.is_plan.plan × (length is.is_plan.plan ≡ length next.layers)
plan_behind d c f is next are behind =
    let plan = is.is_plan.plan in
    let old = is.is_plan.is_chosen in
    let long : length plan ≡ years d = old.whole ∙ is.is_table.many in
    let whole : length plan ≡ length next.layers = long ∙ sym behind.many in (
      record {
        years = omega (arith, whole);
        accepted = λ k h. accepted_behind d c f is next k (placed_of d c f are is) (omega (arith, h, long, are.many)) (omega (arith, h, long)) h behind;
        grows = old.admissible.grows;
      },
      whole,
    )

no_dearer : (e : CostData) (one other : List Scored) → IsNoWorse e one other → plan_cost e one ≤ plan_cost e other
no_dearer e one other (inl less) = omega (arith, less)
no_dearer e one other (inr tie) = omega (arith, tie.0)

cheaper : (d : Says) (c : ℕ) (f g : Found) → AreTunnels d f.tunnels → IsFound d c f → g.tunnels ≡ tunnels_behind d f → IsFound d c g → g.total ≤ f.total
cheaper d c f g are is under found =
    let next = found.table in
    let behind : IsTableOf d c (tunnels_behind d f) next = subst (λ (t : Tunnels). IsTableOf d c t next) under found.is_table in
    let plan = plan_behind d c f is next are behind in
    let low : plan_cost next.economy found.is_plan.plan ≤ plan_cost next.economy is.is_plan.plan =
    no_dearer next.economy found.is_plan.plan is.is_plan.plan (found.is_plan.is_chosen.best is.is_plan.plan plan.0 plan.1) in
    let same : f.total ≡ plan_cost next.economy is.is_plan.plan =
    is.is_plan.costs ∙ ap (λ (e : CostData). plan_cost e is.is_plan.plan) (is.is_table.economy ∙ sym found.is_table.economy) in
    omega (arith, low, same, found.is_plan.costs)

pub costs_go_down : CostsNeverRise
costs_go_down d c f are is = record {
  cheaper = λ g under found. cheaper d c f g are is under found;
  feasible = λ year barred.
      let plan = plan_behind d c f is barred.table are barred.is_table in
      no_admissible barred.table is.is_plan.plan year plan.0 plan.1 barred.is_barred;
}
