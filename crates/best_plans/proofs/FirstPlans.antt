-- The k best plans, from what is reached after the last year.
use Rattle.std.proofs.Common.{◌≡◌, ℕ, ◌+◌, ◌<◌, ◌≤◌, List, [], ◌∷◌, length, map, reverse, replicate, get_or, Contains, Option, Some, None, sym, ap, ◌∙◌, arith, refl, subst, ⊎_elim, inl, inr, ◌⊎◌, ◌≢◌, true≢false}
use Rattle.std.proofs.lemmas.Bool.{cases_eq}
use Rattle.std.proofs.lemmas.Cmp.{lists_total, nat_list_cmp_total}
use Rattle.std.proofs.lemmas.List.{append-nil, get_or-map, get_or-replicate, length-map, length-reverse, reverse-reverse}
use Rattle.std.specs.Cmp.Lexicographic.{slice_cmp}
use Rattle.std.specs.Ordering.{is_gt, is_lt, nat_cmp, ordering_reverse}
use Rattle.std.specs.declared.cmp.Ordering.{Ordering}
use Rattle.std.specs.declared.cmp.Ordering.TheVariants.{Less, Greater}
use Rattle.cost_terms.specs.Table.{Table}
use Rattle.cost_terms.specs.declared.entries.Scored.{Scored}
use Rattle.cost_terms.specs.declared.prices.CostData.{CostData}
use Rattle.plan_program.specs.Chosen.{IsChosen, IsNoWorse, backwards}
use Rattle.plan_program.specs.Plans.{configs}
use Rattle.plan_program.specs.Ways.{IsWay, way_cost}
use Rattle.plan_program.proofs.Orders.{backwards_is}
use Rattle.plan_program.proofs.Ways.{cost_same, plan_way, way_plan}
use Rattle.best_plans.specs.Best.{AreBest, AreFirst, FirstIsChosen, IsBetter, IsRanking, shown}
use Rattle.best_plans.specs.Offers.{AreOffers}
use Rattle.best_plans.specs.Reach.{AreReached, IsBefore, onward, told}
use Rattle.best_plans.specs.declared.offers.Offer.{Offer}
use Rattle.best_plans.specs.declared.ranked.Ranked.{Ranked}
use Rattle.best_plans.specs.declared.ranked.Reached.{Reached}
use Rattle.best_plans.proofs.Putting.{among, at_place, some_one}
use Rattle.best_plans.proofs.Selecting.{Step, after, way_at}

-- a way of all years
record IsFullWay (t : Table) (w : List Scored) : Type 0 where
  pub is_way : IsWay t w
  pub long : length w ≡ length t.layers

nothing_more : (n i a : ℕ) → i < n → get_or (replicate n (Some 0)) i None ≡ Some a → a ≡ 0
nothing_more n i a b e = some_one a 0 (get_or (replicate n (Some 0)) i None) e (get_or-replicate {A = Option ℕ} n i (Some 0) None b)

last_step : (t : Table) (k : ℕ) (rs : List Reached) (added : List (Option ℕ)) → AreReached t k (length t.layers) rs → added ≡ replicate (length rs) (Some 0) → Step t k (length t.layers) rs added (λ w. w) (IsFullWay t)
last_step t k rs added r e = record {
  reached = r;
  costs = λ i a b there w to. none (way_cost t.economy w) a (nothing_more (length rs) i a b (sym (ap (λ (xs : List (Option ℕ)). get_or xs i None) e) ∙ there));
  keeps = λ w v h. h;
  is = λ i a b there w to. record { is_way = to.is_way; long = to.long };
  from = λ v q.
      let met = r.all v q.is_way q.long in
      record {
        place = met.place;
        within = met.within;
        adds = 0;
        there = ap (λ (xs : List (Option ℕ)). get_or xs met.place None) e ∙ get_or-replicate {A = Option ℕ} (length rs) met.place (Some 0) None met.within;
        way = v;
        to = record { is_way = q.is_way; long = q.long; last = sym met.same };
        same = refl;
      };
}
  where
    none : (x a : ℕ) → a ≡ 0 → x ≡ x + a
    none x a e = omega (arith, e)

before_better : (c : CostData) (w v : List Scored) → IsBefore c w v → IsBetter c (reverse w) (reverse v)
before_better c w v (inl less) = inl (omega (arith, less, cost_same c w, cost_same c v))
before_better c w v (inr same) = inr (cost_same c w ∙ (same.0 ∙ sym (cost_same c v)), rw (backwards_is w) (rw (backwards_is v) same.1))

plans_at : (ws : List (List Scored)) (i : ℕ) → i < length ws → get_or (map reverse ws) i [] ≡ reverse (way_at ws i)
plans_at ws i b = get_or-map reverse ws i [] [] b

best_of_ways : (t : Table) (k : ℕ) (ws : List (List Scored)) → AreFirst (IsBefore t.economy) (IsFullWay t) [] k ws → AreBest t k (map reverse ws)
best_of_ways t k ws h =
    let n : length (map reverse ws) ≡ length ws = length-map ws reverse in
    record {
      few = omega (arith, n, h.few);
      each = λ i b.
          let c : i < length ws = omega (arith, b, n) in
          let w = h.each i c in
          rw (plans_at ws i c) (record { admissible = way_plan t (way_at ws i) w.is_way; whole = length-reverse (way_at ws i) ∙ w.long });
      order = λ i j b d.
          let e : j < length ws = omega (arith, d, n) in
          let c : i < length ws = omega (arith, b, e) in
          rw (plans_at ws i c) (rw (plans_at ws j e) (before_better t.economy (way_at ws i) (way_at ws j) (h.order i j b e)));
      all = λ plan p. ⊎_elim (there plan) (out plan) (h.all (reverse plan) (record { is_way = plan_way t plan p.admissible; long = length-reverse plan ∙ p.whole }));
    }
  where
    there : (plan : List Scored) → Contains ws (reverse plan) → Contains (map reverse ws) plan ⊎ ((length (map reverse ws) ≡ k) × ((i : ℕ) → i < length (map reverse ws) → IsBetter t.economy (get_or (map reverse ws) i []) plan))
    there plan m = inl (among (map reverse ws) [] plan m.0 (omega (arith, m.1, length-map ws reverse)) (plans_at ws m.0 m.1 ∙ (ap reverse (at_place ws [] (reverse plan) m) ∙ reverse-reverse plan)))

    out : (plan : List Scored) → (length ws ≡ k) × ((i : ℕ) → i < length ws → IsBefore t.economy (way_at ws i) (reverse plan)) → Contains (map reverse ws) plan ⊎ ((length (map reverse ws) ≡ k) × ((i : ℕ) → i < length (map reverse ws) → IsBetter t.economy (get_or (map reverse ws) i []) plan))
    out plan f = inr (length-map ws reverse ∙ f.0, λ i b. at i (omega (arith, b, length-map ws reverse)))
      where
        at : (i : ℕ) → i < length ws → IsBetter t.economy (get_or (map reverse ws) i []) plan
        at i c = rw (plans_at ws i c) (subst (λ (x : List Scored). IsBetter t.economy (reverse (way_at ws i)) x) (reverse-reverse plan) (before_better t.economy (way_at ws i) (reverse plan) (f.1 i c)))

told_shown : (c : CostData) (ws : List (List Scored)) → map (told c) ws ≡ map (shown c) (map reverse ws)
told_shown c [] = refl
told_shown c (w ∷ ws) = λ i. record { configs = configs (reverse w); total = sym (cost_same c w) i } ∷ told_shown c ws i

pub ranking_is : (t : Table) (k : ℕ) (rs : List Reached) (added : List (Option ℕ)) (os : List Offer) (ranking : List Ranked) → AreReached t k (length t.layers) rs → added ≡ replicate (length rs) (Some 0) → AreOffers k rs added (length rs) 0 os → ranking ≡ map (onward rs []) os → IsRanking t k ranking
ranking_is t k rs added os ranking r e h is =
    let x = after t k (length t.layers) rs added (λ w. w) (IsFullWay t) os [] (last_step t k rs added r e) h (λ w. sym (append-nil (configs (reverse w)))) in
    record { plans = map reverse x.0; best = best_of_ways t k x.0 x.1.0; shows = is ∙ (x.1.1 ∙ told_shown t.economy x.0) }

-- ---- the first is the chosen plan

not_greater : (o : Ordering) → o ≡ Less → o ≢ Greater
not_greater o e f = true≢false (ap is_lt (sym e ∙ f))

better_worse : (c : CostData) (x y : List Scored) → IsBetter c x y → IsNoWorse c x y
better_worse c x y (inl less) = inl less
better_worse c x y (inr same) = inr (same.0, not_greater (slice_cmp (slice_cmp nat_cmp) (backwards x) (backwards y)) same.1)

equal_no_greater : (x : List (List ℕ)) → slice_cmp (slice_cmp nat_cmp) x x ≢ Greater
equal_no_greater x f =
    let back = (lists_total nat_list_cmp_total).antisymm x x in
    true≢false (sym (ap is_gt f) ∙ (ap is_gt back ∙ ap (λ o. is_gt (ordering_reverse o)) f))

no_worse_itself : (c : CostData) (x : List Scored) → IsNoWorse c x x
no_worse_itself c x = inr (refl, equal_no_greater (backwards x))

first_chosen : (t : Table) (k : ℕ) (first : List Scored) (plans : List (List Scored)) → AreBest t k (first ∷ plans) → IsChosen t first
first_chosen t k first plans h = record {
  admissible = (h.each 0 (omega arith)).admissible;
  whole = (h.each 0 (omega arith)).whole;
  best = λ other a long. ⊎_elim
      (λ m. among_best other m)
      (λ out. better_worse t.economy first other (out.1 0 (omega arith)))
      (h.all other (record { admissible = a; whole = long }));
}
  where
    among_best : (other : List Scored) → Contains (first ∷ plans) other → IsNoWorse t.economy first other
    among_best other m =
        let is : get_or (first ∷ plans) m.0 [] ≡ other = at_place (first ∷ plans) [] other m in
        ⊎_elim
        (λ z. subst (λ (x : List Scored). IsNoWorse t.economy first x) (ap (λ i. get_or (first ∷ plans) i []) (sym z) ∙ is) (no_worse_itself t.economy first))
        (λ more. subst (λ (x : List Scored). IsNoWorse t.economy first x) is (better_worse t.economy first (get_or (first ∷ plans) m.0 []) (h.order 0 m.0 (omega (arith, more)) m.1)))
        (cases_eq m.0 0)

chosen_shown : (t : Table) (k : ℕ) (plans : List (List Scored)) → 1 ≤ k → AreBest t k plans → FirstIsChosen t (map (shown t.economy) plans)
chosen_shown t k [] some h = λ p. ⊎_elim (λ m. omega (arith, m.1)) (λ out. omega (arith, some, out.0)) (h.all p.plan (record { admissible = p.admissible; whole = p.long }))
chosen_shown t k (first ∷ plans) some h = record { plan = first; is_chosen = first_chosen t k first plans h; shown = refl; costs = refl }

pub first_is : (t : Table) (k : ℕ) (ranking : List Ranked) → 1 ≤ k → IsRanking t k ranking → FirstIsChosen t ranking
first_is t k ranking some r = subst (λ (x : List Ranked). FirstIsChosen t x) (sym r.shows) (chosen_shown t k r.plans some r.best)
