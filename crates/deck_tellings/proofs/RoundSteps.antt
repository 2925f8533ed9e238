-- The rounds of a search: what one tells, and what comes behind it.
use Rattle.std.proofs.Common.{◌≡◌, ◌∙◌, ap, sym, refl, subst, ℕ, zero, suc, ◌+◌, ◌-◌, ◌<◌, inl, inr, ⊎_elim, All, Contains, List, [], ◌++◌, Some, length, map, get_or, slice_index_or, arith, append_assoc}
use Rattle.std.specs.Prelude.{Vec}
use Rattle.std.proofs.lemmas.Bool.{cases_lt}
use Rattle.std.proofs.lemmas.List.Elements.{All-contains_itself, All-filter, All-map}
use Rattle.std.proofs.lemmas.List.FromFn.{length-map-range_with_len}
use Rattle.checked_deck.specs.Systems.{system}
use Rattle.checked_deck.specs.TypedDeck.{limit}
use Rattle.cost_terms.specs.Table.{Table}
use Rattle.cost_terms.specs.declared.entries.Scored.{Scored}
use Rattle.deck_check.specs.Readings.{Says, greatest, years}
use Rattle.plan_program.specs.Chosen.{IsInfeasible, IsPlanOf}
use Rattle.plan_program.specs.Plans.{entry_at, layer_at, no_entry}
use Rattle.plant_data.specs.Tunnels.{IsTunnelOf}
use Rattle.plant_data.specs.declared.row.Limit.{Limit}
use Rattle.plant_data.specs.declared.row.Tunnel.{Tunnel}
use Rattle.report_text.specs.Refusals.{refusal_line}
use Rattle.report_text.specs.Rounds.{barred_line, found_text, inside_line, round_line}
use Rattle.report_text.specs.declared.refusals.Refusal.{Refusal}
use Rattle.report_text.specs.declared.rounds.Found.{Found}
use Rattle.row_shelf.specs.Tables.{accepted_of}
use Rattle.sim_engine.specs.Row.{row_of}
use Rattle.sim_sweep.specs.Cases.{is_accepted}
use Rattle.tunnel_configs.specs.Listed.{IsInTunnel, ListingsAreOne}
use Rattle.tunnel_search.specs.Search.{AreInside, ArePlaced, config_of, moved_tunnels, tunnel_of}
use Rattle.case_study.specs.Case.{IsTableOf}
use Rattle.case_study.specs.Listings.{AreTunnels, AreWithin, IsOverIn, Tunnels}
use Rattle.deck_tellings.specs.Rounds.{IsBarred, IsFound, IsRoundUnder, IsSettled, tunnels_behind}
use Rattle.deck_tellings.specs.Searching.{GoesRound, IsLastRound}
use Rattle.deck_tellings.specs.declared.rounds.NextRound.{NextRound}
use Rattle.deck_tellings.proofs.OnePlan.{no_plan, one_chosen}
use Rattle.case_study.proofs.OnenessReports.{table_one}
use Rattle.deck_tellings.proofs.OverSteps.{over_not_case}
use Rattle.case_study.proofs.PlanSteps.{length_is, place_is}
use Rattle.year_system.specs.System.{System}

-- ---- a chosen configuration is in its tunnel

pub accepted_in : (s : System) (l : Limit) (xs : List (List ℕ)) → All (λ e. Contains xs e.config) (accepted_of s l xs)
accepted_in s l xs =
    All-filter (λ (e : Scored). is_accepted e.row l) (λ e. Contains xs e.config) (map (λ (x : List ℕ). record { config = x; row = row_of s x }) xs)
    (All-map (λ (e : Scored). Contains xs e.config) (λ (x : List ℕ). record { config = x; row = row_of s x }) xs (All-contains_itself xs))

in_tunnel : (d : Says) (c : ℕ) (tunnels : Tunnels) (table : Table) (shown : List (List ℕ)) (total k : ℕ) → IsTableOf d c tunnels table → IsPlanOf table shown total → k < years d
    → IsInTunnel (tunnel_of tunnels k) (config_of shown k)
in_tunnel d c tunnels table shown total k is plan lt =
    let within : k < length shown = omega (arith, length_is table shown total plan, is.many, lt) in
    let place = place_is table shown total k plan within in
    let layer = is.layers k lt in
    let all : All (λ e. Contains layer.configs e.config) (layer_at table k) = subst (All (λ e. Contains layer.configs e.config)) (sym layer.is) (accepted_in (system d (k + 1)) (limit d c (k + 1)) layer.configs) in
    let has : Contains layer.configs (entry_at (layer_at table k) place.place).config = all place.place no_entry place.within in
    let listed = (layer.listing.each (get_or shown k [])).0 (subst (Contains layer.configs) place.is has) in
    let same : k + 1 - 1 ≡ k = omega arith in
    subst (λ (n : ℕ). IsInTunnel (slice_index_or tunnels n (record { least = []; width = [] })) (get_or shown k [])) same listed.tunnel

pub placed_of : (d : Says) (c : ℕ) (f : Found) → AreTunnels d f.tunnels → IsFound d c f → ArePlaced (greatest d) f.tunnels f.configs
placed_of d c f are is = record {
  many = omega (arith, length_is is.table f.configs f.total is.is_plan, is.is_table.many, are.many);
  fit = are.fit;
  within = λ k lt. in_tunnel d c f.tunnels is.table f.configs f.total k is.is_table is.is_plan (omega (arith, lt, are.many));
}

pub placed_as : (d : Says) (c : ℕ) (f : Found) (most : List ℕ) (ts : List Tunnel) (xs : List (List ℕ)) → most ≡ greatest d → ts ≡ f.tunnels → xs ≡ f.configs → AreTunnels d f.tunnels → IsFound d c f → ArePlaced most ts xs
placed_as d c f most ts xs of_most of_ts of_xs are is =
    subst (λ (m : List ℕ). ArePlaced m ts xs) (sym of_most) (subst (λ (z : List Tunnel). ArePlaced (greatest d) z xs) (sym of_ts) (subst (λ (z : List (List ℕ)). ArePlaced (greatest d) f.tunnels z) (sym of_xs) (placed_of d c f are is)))

pub settled_as : (d : Says) (f : Found) (most : List ℕ) (ts : List Tunnel) (xs : List (List ℕ)) → most ≡ greatest d → ts ≡ f.tunnels → xs ≡ f.configs → AreInside most ts xs → IsSettled d f
settled_as d f most ts xs of_most of_ts of_xs inside =
    subst (λ (z : List (List ℕ)). AreInside (greatest d) f.tunnels z) of_xs (subst (λ (z : List Tunnel). AreInside (greatest d) z xs) of_ts (subst (λ (m : List ℕ). AreInside m ts xs) of_most inside))

pub inside_as : (d : Says) (f : Found) (most : List ℕ) (ts : List Tunnel) (xs : List (List ℕ)) → most ≡ greatest d → ts ≡ f.tunnels → xs ≡ f.configs → IsSettled d f → AreInside most ts xs
inside_as d f most ts xs of_most of_ts of_xs inside =
    subst (λ (m : List ℕ). AreInside m ts xs) (sym of_most) (subst (λ (z : List Tunnel). AreInside (greatest d) z xs) (sym of_ts) (subst (λ (z : List (List ℕ)). AreInside (greatest d) f.tunnels z) (sym of_xs) inside))

-- ---- a round has one answer

pub found_one : ListingsAreOne → (d : Says) (c : ℕ) (f g : Found) → f.tunnels ≡ g.tunnels → IsFound d c f → IsFound d c g → f ≡ g
found_one one d c f g same a b =
    let table : a.table ≡ b.table = table_one one d c f.tunnels a.table b.table a.is_table (subst (λ (t : Tunnels). IsTableOf d c t b.table) (sym same) b.is_table) in
    let other : IsPlanOf a.table g.configs g.total = subst (λ (t : Table). IsPlanOf t g.configs g.total) (sym table) b.is_plan in
    let both = one_chosen a.table a.is_plan.plan other.plan a.is_plan.is_chosen other.is_chosen in
    let shown : f.configs ≡ g.configs = a.is_plan.shown ∙ (both.0 ∙ sym other.shown) in
    let costs : f.total ≡ g.total = a.is_plan.costs ∙ (both.1 ∙ sym other.costs) in
    λ i. record { tunnels = same i; configs = shown i; total = costs i }

pub found_not_barred : ListingsAreOne → (d : Says) (c : ℕ) (f : Found) (tunnels : Tunnels) (year : ℕ) → f.tunnels ≡ tunnels → IsFound d c f → IsBarred d c tunnels year → ⊥
found_not_barred one d c f tunnels year same a b =
    let table : b.table ≡ a.table = table_one one d c tunnels b.table a.table b.is_table (subst (λ (t : Tunnels). IsTableOf d c t a.table) same a.is_table) in
    no_plan a.table a.is_plan.plan year a.is_plan.is_chosen (subst (λ (t : Table). IsInfeasible t year) table b.is_barred)

pub found_not_over : ListingsAreOne → (d : Says) (c : ℕ) (f : Found) (tunnels : Tunnels) (r : Refusal) → f.tunnels ≡ tunnels → IsFound d c f → IsOverIn d c tunnels r → ⊥
found_not_over one d c f tunnels r same a over = over_not_case one d c tunnels r over (subst (λ (t : Tunnels). AreWithin d c t) same a.within)

-- the tunnels of a round are one
pub round_one : ListingsAreOne → (n : ℕ) (d : Says) (c : ℕ) (a b : Tunnels) → IsRoundUnder n d c a → IsRoundUnder n d c b → a ≡ b
round_one one zero d c a b x y = x ∙ sym y
round_one one (suc n) d c a b x y =
    let f = x.0 in
    let g = y.0 in
    let same = round_one one n d c f.tunnels g.tunnels x.1 y.1 in
    let found : f ≡ g = found_one one d c f g same x.2 y.2 in
    x.4 ∙ (ap (tunnels_behind d) found ∙ sym y.4)

-- behind the last round there is none
pub none_behind : ListingsAreOne → (n : ℕ) (d : Says) (c : ℕ) (tunnels : Tunnels) → IsRoundUnder n d c tunnels → ((f : Found) → f.tunnels ≡ tunnels → IsFound d c f → (IsSettled d f → ⊥) → ⊥)
    → (m : ℕ) (ts : Tunnels) → n < m → IsRoundUnder m d c ts → ⊥
none_behind one n d c tunnels is last zero ts less under = absurd (omega (arith, less))
none_behind one n d c tunnels is last (suc m) ts less under =
    ⊎_elim
    (λ below. none_behind one n d c tunnels is last m under.0.tunnels below under.1)
    (λ above.
    let same : m ≡ n = omega (arith, less, above) in
    last under.0 (round_one one n d c under.0.tunnels tunnels (subst (λ (k : ℕ). IsRoundUnder k d c under.0.tunnels) same under.1) is) under.2 under.3)
    (cases_lt n m)

-- ---- what is told of a round

two_texts : (old mid now one other : List ℕ) → mid ≡ old ++ one → now ≡ mid ++ other → now ≡ old ++ (one ++ other)
two_texts old mid now one other e f = f ∙ (ap (λ (t : List ℕ). t ++ other) e ∙ append_assoc old one other)

pub over_last : {Z : Type 0} (d : Says) (c : ℕ) (r : NextRound) (said mid now : Vec ℕ Z) (refusal : Refusal) → IsOverIn d c r.tunnels.items refusal
    → mid.items ≡ said.items ++ refusal_line refusal → now.items ≡ mid.items ++ found_text c r.last → IsLastRound d c r said now
over_last d c r said mid now refusal over e f = record {
  rest = refusal_line refusal ++ found_text c r.last;
  text = two_texts said.items mid.items now.items _ _ e f;
  is = λ more. inl (record { refusal = refusal; over = over; is = refl });
  last = λ one g under is unsettled. found_not_over one d c g r.tunnels.items refusal under is over;
}

pub barred_last : {Z : Type 0} (d : Says) (c : ℕ) (r : NextRound) (said mid now : Vec ℕ Z) (year : ℕ) → IsBarred d c r.tunnels.items year
    → mid.items ≡ said.items ++ barred_line year → now.items ≡ mid.items ++ found_text c r.last → IsLastRound d c r said now
barred_last d c r said mid now year barred e f = record {
  rest = barred_line year ++ found_text c r.last;
  text = two_texts said.items mid.items now.items _ _ e f;
  is = λ more. inr (inl (record { year = year; barred = barred; is = refl }));
  last = λ one g under is unsettled. found_not_barred one d c g r.tunnels.items year under is barred;
}

pub settled_last : {Z : Type 0} (d : Says) (c : ℕ) (r : NextRound) (f : Found) (said mid next now : Vec ℕ Z) → f.tunnels ≡ r.tunnels.items → IsFound d c f → IsSettled d f
    → mid.items ≡ said.items ++ round_line r.number f.total → next.items ≡ mid.items ++ inside_line → now.items ≡ next.items ++ found_text c (Some f) → IsLastRound d c r said now
settled_last d c r f said mid next now under is settled e g h = record {
  rest = round_line r.number f.total ++ (inside_line ++ found_text c (Some f));
  text = two_texts said.items mid.items now.items _ _ e (two_texts mid.items next.items now.items _ _ g h);
  is = λ more. inr (inr (record { found = f; under = under; is_found = is; rest = inside_line ++ found_text c (Some f); behind = inl (settled, refl); is = refl }));
  last = λ one x its is_x unsettled. unsettled (subst (IsSettled d) (found_one one d c f x (under ∙ sym its) is is_x) settled);
}

pub goes_behind : {Z : Type 0} (d : Says) (c : ℕ) (r next : NextRound) (f : Found) (said now : Vec ℕ Z) (most : List ℕ) (ts : List Tunnel) (xs : List (List ℕ))
    → f.tunnels ≡ r.tunnels.items → IsFound d c f → most ≡ greatest d → ts ≡ f.tunnels → xs ≡ f.configs → AreTunnels d r.tunnels.items → (IsSettled d f → ⊥)
    → now.items ≡ said.items ++ round_line r.number f.total → next.number ≡ r.number + 1 → next.tunnels.items ≡ moved_tunnels most ts xs → All (IsTunnelOf most) next.tunnels.items → next.last ≡ Some f
    → GoesRound d c r next said now
goes_behind d c r next f said now most ts xs under is of_most of_ts of_xs are unsettled text number moved fit last =
    let behind : next.tunnels.items ≡ tunnels_behind d f =
    moved ∙ (ap (λ (m : List ℕ). moved_tunnels m ts xs) of_most ∙ (ap (λ (z : List Tunnel). moved_tunnels (greatest d) z xs) of_ts ∙ ap (λ (z : List (List ℕ)). moved_tunnels (greatest d) f.tunnels z) of_xs)) in
    record {
      found = f;
      under = under;
      is_found = is;
      unsettled = unsettled;
      text = text;
      number = number;
      tunnels = behind;
      fit = record {
        many = ap length behind ∙ (length-map-range_with_len _ 0 (length f.tunnels) ∙ (ap length under ∙ are.many));
        fit = subst (λ (m : List ℕ). All (IsTunnelOf m) next.tunnels.items) of_most fit;
      };
      last = last;
    }

-- the same round with its tunnels in other hands
pub found_as : (d : Says) (c : ℕ) (a b : Tunnels) (configs : List (List ℕ)) (total : ℕ) → b ≡ a → IsFound d c (record { tunnels = a; configs = configs; total = total })
    → IsFound d c (record { tunnels = b; configs = configs; total = total })
found_as d c a b configs total same is = subst (λ (t : Tunnels). IsFound d c (record { tunnels = t; configs = configs; total = total })) (sym same) is
