-- From what is reached before a year to what is reached after it.
use Rattle.std.proofs.Common.{◌≡◌, ℕ, zero, suc, ◌+◌, ◌*◌, ◌^◌, ◌<◌, ◌≤◌, List, [], ◌∷◌, ◌++◌, length, map, reverse, get_or, Contains, Option, Some, None, sym, ap, ◌∙◌, arith, refl, subst, ⊎_elim, inl, inr, true≢false}
use Rattle.std.proofs.Math.ListN.{get_or-append}
use Rattle.std.proofs.lemmas.Bool.{cases_eq, cases_lt}
use Rattle.std.proofs.lemmas.List.{get_or_default, get_or-map, get_or_past, get_or_push, length-append, length-map}
use Rattle.std.proofs.lemmas.Option.{none-some}
use Rattle.std.specs.Cmp.Lexicographic.{slice_cmp}
use Rattle.std.specs.Option.{IfSome}
use Rattle.std.specs.Ordering.{is_lt, nat_cmp}
use Rattle.std.specs.declared.cmp.Ordering.TheVariants.{Less}
use Rattle.plant_data.specs.Configs.{IsAtMost}
use Rattle.cost_terms.specs.Cost.{nothing_built, step_cost}
use Rattle.cost_terms.specs.CostData.{Fits}
use Rattle.cost_terms.specs.Table.{IsTable, Rises, Table}
use Rattle.cost_terms.specs.declared.entries.Scored.{Scored}
use Rattle.cost_terms.specs.declared.prices.CostData.{CostData}
use Rattle.plan_program.specs.Plans.{configs, entry_at, layer_at, no_entry}
use Rattle.plan_program.specs.Ways.{IsWay, last_config, way_cost}
use Rattle.plan_program.proofs.Forward.{entry_is, place_of}
use Rattle.plan_program.proofs.Orders.{config_equal, configs_push, same_first}
use Rattle.plan_program.proofs.Ways.{reverse_more}
use Rattle.best_plans.specs.Offers.{AreLow, AreOffers, no_offer, offer_at, ranked_at, reached_at}
use Rattle.best_plans.specs.Reach.{AreAdditions, AreEntries, AreReached, AreWays, IsAddition, IsMet, IsWayTo, onward}
use Rattle.best_plans.specs.declared.offers.Offer.{Offer}
use Rattle.best_plans.specs.declared.ranked.Ranked.{Ranked}
use Rattle.best_plans.specs.declared.ranked.Reached.{Reached}
use Rattle.best_plans.proofs.Putting.{some_one}
use Rattle.best_plans.proofs.Selecting.{From, Step, after}

-- ---- reading

pub read_ways : (rs : List Reached) (place : ℕ) (x : Reached) (ws : List Ranked) → place < length rs → ws ≡ (get_or rs place x).ways → ws ≡ (reached_at rs place).ways
read_ways rs place x ws b e = e ∙ ap (λ (r : Reached). r.ways) (get_or_default rs place x (record { config = []; ways = [] }) b)

pub read_total : (rs : List Reached) (place rank : ℕ) (ws : List Ranked) (x : Ranked) → ws ≡ (reached_at rs place).ways → rank < length ws → (get_or ws rank x).total ≡ (ranked_at (reached_at rs place).ways rank).total
read_total rs place rank ws x e b = ap (λ (r : Ranked). r.total) (get_or_default ws rank x (record { configs = []; total = 0 }) b ∙ ap (λ (xs : List Ranked). ranked_at xs rank) e)

pub small_sum : (rs : List Reached) (place rank adds : ℕ) (ws : List Ranked) (x : Ranked) → ws ≡ (reached_at rs place).ways → rank < length ws → AreLow rs (10 ^ 18) → adds ≤ 10 ^ 18 → (get_or ws rank x).total + adds < 2 ^ 64
small_sum rs place rank adds ws x e b low a = omega (arith, read_total rs place rank ws x e b, low place rank, a)

-- ---- what is added

pub added_each : (c : CostData) (year : ℕ) (rs : List Reached) (e : Scored) (added new : List (Option ℕ)) (n : ℕ) (x : Reached) (o : Option ℕ) → length added ≡ n → ((i : ℕ) → i < n → IsAddition c year (reached_at rs i).config e (get_or added i None)) →
    new ≡ added ++ o ∷ [] → x ≡ reached_at rs n → IsAddition c year x.config e o → (i : ℕ) → i < n + 1 → IsAddition c year (reached_at rs i).config e (get_or new i None)
added_each c year rs e added new n x o long each is at here i b = subst (λ (xs : List (Option ℕ)). IsAddition c year (reached_at rs i).config e (get_or xs i None)) (sym is) (⊎_elim
    (λ same. subst (λ (v : Option ℕ). IsAddition c year (reached_at rs i).config e v) (sym (get_or_push added o None i (long ∙ sym same))) (subst (λ (y : Reached). IsAddition c year y.config e o) (at ∙ ap (λ j. reached_at rs j) (sym same)) here))
    (λ other. subst (λ (v : Option ℕ). IsAddition c year (reached_at rs i).config e v) (sym (get_or-append added (o ∷ []) None i (omega (arith, b, other, long)))) (each i (omega (arith, b, other))))
    (cases_eq i n))

some_small : (o : Option ℕ) (bound cost : ℕ) → IfSome o (λ v. v ≤ bound) → o ≡ Some cost → cost ≤ bound
some_small None bound cost h e = absurd (none-some cost e)
some_small (Some v) bound cost h e = omega (arith, h, some_one v cost (Some v) refl e)

pub added_small : (added new : List (Option ℕ)) (n bound : ℕ) (o : Option ℕ) → length added ≡ n → ((i cost : ℕ) → get_or added i None ≡ Some cost → cost ≤ bound) → new ≡ added ++ o ∷ [] → IfSome o (λ v. v ≤ bound) → (i cost : ℕ) → get_or new i None ≡ Some cost → cost ≤ bound
added_small added new n bound o long small is here i cost e =
    let e' : get_or (added ++ o ∷ []) i None ≡ Some cost = sym (ap (λ (xs : List (Option ℕ)). get_or xs i None) is) ∙ e in
    ⊎_elim
    (λ below. small i cost (sym (get_or-append added (o ∷ []) None i (omega (arith, below, long))) ∙ e'))
    (λ above. ⊎_elim
    (λ same. some_small o bound cost here (sym (get_or_push added o None i (long ∙ sym same)) ∙ e'))
    (λ other. absurd (none-some cost (sym (get_or_past (added ++ o ∷ []) i None (omega (arith, above, other, long, length-append added (o ∷ [])))) ∙ e')))
    (cases_eq i n))
    (cases_lt i n)

-- ---- one entry

-- entries of one layer with one configuration
one_entry : (layer : List Scored) → Rises layer → (d e : Scored) → Contains layer d → Contains layer e → d.config ≡ e.config → d ≡ e
one_entry layer r d e p q same =
    let i = place_of layer d p in
    let j = place_of layer e q in
    ⊎_elim
    (λ less. absurd (apart d e same (at i.place j.place d e less j.within i.is j.is)))
    (λ more. ⊎_elim
    (λ eq. sym i.is ∙ (ap (λ n. entry_at layer n) eq ∙ j.is))
    (λ other. absurd (apart e d (sym same) (at j.place i.place e d (omega (arith, more, other)) i.within j.is i.is)))
    (cases_eq i.place j.place))
    (cases_lt i.place j.place)
  where
    at : (i j : ℕ) (x y : Scored) → i < j → j < length layer → entry_at layer i ≡ x → entry_at layer j ≡ y → slice_cmp nat_cmp x.config y.config ≡ Less
    at i j x y h b f g = rw (← f) (rw (← g) (r i j no_entry h b))

    apart : (x y : Scored) → x.config ≡ y.config → slice_cmp nat_cmp x.config y.config ≡ Less → ⊥
    apart x y f g = true≢false (ap is_lt (sym g ∙ (ap (λ (v : List ℕ). slice_cmp nat_cmp x.config v) (sym f) ∙ config_equal x.config)))

added_some : (c : CostData) (year : ℕ) (x : List ℕ) (e : Scored) (o : Option ℕ) (a : ℕ) → IsAddition c year x e o → o ≡ Some a → IsAtMost x e.config × (a ≡ step_cost c year x e.config e.row)
added_some c year x e o a (inl h) is = (h.0, some_one a (step_cost c year x e.config e.row) o is h.1)
added_some c year x e o a (inr h) is = absurd (none-some a (sym h.1 ∙ is))

added_there : (c : CostData) (year : ℕ) (x : List ℕ) (e : Scored) (o : Option ℕ) → IsAddition c year x e o → IsAtMost x e.config → o ≡ Some (step_cost c year x e.config e.row)
added_there c year x e o (inl h) g = h.1
added_there c year x e o (inr h) g = absurd (h.0 g)

entry_step : (t : Table) (k n : ℕ) (rs : List Reached) (e : Scored) (added : List (Option ℕ)) → IsTable t → n < length t.layers → Contains (layer_at t n) e → AreReached t k n rs → AreAdditions t.economy (n + 1) rs e added → Step t k n rs added (λ w. e ∷ w) (IsWayTo t (n + 1) e.config)
entry_step t k n rs e added v b in_layer r a = record {
  reached = r;
  costs = λ i u c there w to.
      let s = added_some t.economy (n + 1) (reached_at rs i).config e (get_or added i None) u (a.each i c) there in
      let year : length w + 1 ≡ n + 1 = omega (arith, to.long) in
      let step : step_cost t.economy (length w + 1) (last_config t.economy w) e.config e.row ≡ u = (λ j. step_cost t.economy (year j) (to.last j) e.config e.row) ∙ sym s.1 in
      ap (λ x. way_cost t.economy w + x) step;
  keeps = λ w x h. same_first e.config (configs w) (configs x) ∙ h;
  is = λ i u c there w to.
      let s = added_some t.economy (n + 1) (reached_at rs i).config e (get_or added i None) u (a.each i c) there in
      record { is_way = (rw to.long b, rw to.long in_layer, rw to.last s.0, to.is_way); long = omega (arith, to.long); last = refl };
  from = λ x to. from x to;
}
  where
    from : (x : List Scored) → IsWayTo t (n + 1) e.config x → From t n rs added (λ w. e ∷ w) x
    from [] to = absurd (omega (arith, to.long))
    from (d ∷ w) to =
        let long : length w ≡ n = omega (arith, to.long) in
        let there : Contains (layer_at t n) d = subst (λ j. Contains (layer_at t j) d) long to.is_way.1 in
        let same : d ≡ e = one_entry (layer_at t n) (v.rises n [] b) d e there in_layer to.last in
        let met = r.all w to.is_way.3 long in
        let grows : IsAtMost (reached_at rs met.place).config e.config = rw met.same (subst (λ (y : Scored). IsAtMost (last_config t.economy w) y.config) same to.is_way.2) in
        record {
          place = met.place;
          within = met.within;
          adds = step_cost t.economy (n + 1) (reached_at rs met.place).config e.config e.row;
          there = added_there t.economy (n + 1) (reached_at rs met.place).config e (get_or added met.place None) (a.each met.place met.within) grows;
          way = w;
          to = record { is_way = to.is_way.3; long = long; last = sym met.same };
          same = ap (λ (y : Scored). y ∷ w) same;
        }

pub entry_after : (t : Table) (k n : ℕ) (rs : List Reached) (e : Scored) (added : List (Option ℕ)) (os : List Offer) (ways : List Ranked) → IsTable t → n < length t.layers → Contains (layer_at t n) e → AreReached t k n rs → AreAdditions t.economy (n + 1) rs e added →
    AreOffers k rs added (length rs) 0 os → ways ≡ map (onward rs (e.config ∷ [])) os → AreWays t k (n + 1) e.config ways
entry_after t k n rs e added os ways v b in_layer r a h is =
    let x = after t k n rs added (λ w. e ∷ w) (IsWayTo t (n + 1) e.config) os (e.config ∷ []) (entry_step t k n rs e added v b in_layer r a) h (λ w. ap configs (reverse_more e w) ∙ configs_push (reverse w) e) in
    record { ways = x.0; first = x.1.0; tells = is ∙ x.1.1 }

pub entry_low : (k n bound : ℕ) (rs : List Reached) (e : Scored) (added : List (Option ℕ)) (os : List Offer) (ways : List Ranked) → AreLow rs (n * (2 * 10 ^ 16)) → ((i cost : ℕ) → get_or added i None ≡ Some cost → cost ≤ 2 * 10 ^ 16) →
    AreOffers k rs added (length rs) 0 os → ways ≡ map (onward rs (e.config ∷ [])) os → (i : ℕ) → (ranked_at ways i).total ≤ (n + 1) * (2 * 10 ^ 16)
entry_low k n bound rs e added os ways low small h is i =
    let m = length-map os (onward rs (e.config ∷ [])) in
    let no_ranked : Ranked = record { configs = []; total = 0 } in
    ⊎_elim
    (λ below.
    let o = (h.each i below).0 in
    let at : (ranked_at ways i).total ≡ (offer_at os i).cost = ap (λ (xs : List Ranked). (ranked_at xs i).total) is ∙ ap (λ (x : Ranked). x.total) (get_or-map (onward rs (e.config ∷ [])) os i no_offer no_ranked below) in
    omega (arith, at, o.costs, low (offer_at os i).place (offer_at os i).rank, small (offer_at os i).place o.adds o.there))
    (λ above.
    let at : (ranked_at ways i).total ≡ 0 = ap (λ (xs : List Ranked). (ranked_at xs i).total) is ∙ ap (λ (x : Ranked). x.total) (get_or_past (map (onward rs (e.config ∷ [])) os) i no_ranked (omega (arith, above, m))) in
    omega (arith, at))
    (cases_lt i (length os))

-- ---- a year

pub next_reached : (t : Table) (k n : ℕ) (rs : List Reached) → IsTable t → n < length t.layers → AreEntries t k n (length (layer_at t n)) rs → AreReached t k (n + 1) rs
next_reached t k n rs v b h = record {
  start = λ z. absurd (omega (arith, z));
  rises = λ i j c d.
      let d' : j < length (layer_at t n) = omega (arith, d, h.long) in
      rw (h.same i (omega (arith, c, d'))) (rw (h.same j d') (v.rises n [] b i j no_entry c d'));
  each = λ i c.
      let d : i < length (layer_at t n) = omega (arith, c, h.long) in
      subst (λ (x : List ℕ). AreWays t k (n + 1) x (reached_at rs i).ways) (sym (h.same i d)) (h.each i d);
  all = λ w is long. met w is long;
  fit = λ i c.
      let d : i < length (layer_at t n) = omega (arith, c, h.long) in
      subst (λ (x : List ℕ). Fits t.economy x) (sym (h.same i d)) (entry_is t v n i b d).fits;
  low = h.low;
}
  where
    met : (w : List Scored) → IsWay t w → length w ≡ n + 1 → IsMet t rs w
    met [] is long = absurd (omega (arith, long))
    met (e ∷ w) is long =
        let p = place_of (layer_at t n) e (subst (λ j. Contains (layer_at t j) e) (omega (arith, long)) is.1) in
        record { place = p.place; within = omega (arith, p.within, h.long); same = h.same p.place p.within ∙ ap (λ (x : Scored). x.config) p.is }

-- before year 1 nothing is built
pub start_reached : (t : Table) (k : ℕ) (rs : List Reached) → 1 ≤ k → rs ≡ record { config = nothing_built t.economy; ways = record { configs = []; total = 0 } ∷ [] } ∷ [] → Fits t.economy (nothing_built t.economy) → AreReached t k 0 rs
start_reached t k rs some e fits = subst (λ (xs : List Reached). AreReached t k 0 xs) (sym e) (record {
  start = λ z. omega arith;
  rises = λ i j b c. absurd (omega (arith, b, c));
  each = λ i b. let z : i ≡ 0 = omega (arith, b) in rw z (record {
    ways = [] ∷ [];
    first = record {
      few = omega (arith, some);
      each = λ j c. let y : j ≡ 0 = omega (arith, c) in rw y (record { is_way = tt; long = refl; last = refl });
      order = λ j l c d. absurd (omega (arith, c, d));
      all = λ w to. inl (none w to.long);
    };
    tells = refl;
  });
  all = λ w is long. met w long;
  fit = λ i b. let z : i ≡ 0 = omega (arith, b) in rw z fits;
  low = λ i j. low i j;
})
  where
    none : (w : List Scored) → length w ≡ 0 → Contains ([] ∷ []) w
    none [] long = (0, omega arith, refl)
    none (d ∷ w) long = absurd (omega (arith, long))

    met : (w : List Scored) → length w ≡ 0 → IsMet t (record { config = nothing_built t.economy; ways = record { configs = []; total = 0 } ∷ [] } ∷ []) w
    met [] long = record { place = 0; within = omega arith; same = refl }
    met (d ∷ w) long = absurd (omega (arith, long))

    low : AreLow (record { config = nothing_built t.economy; ways = record { configs = []; total = 0 } ∷ [] } ∷ []) (0 * (2 * 10 ^ 16))
    low zero zero = omega arith
    low zero (suc j) = omega arith
    low (suc i) j = omega arith
