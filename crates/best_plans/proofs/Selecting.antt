-- The first k ways, from the first k offers.
use Rattle.std.proofs.Common.{◌≡◌, ℕ, zero, suc, ◌+◌, ◌-◌, ◌<◌, ◌≤◌, List, [], ◌∷◌, ◌++◌, length, map, reverse, get_or, Contains, Option, Some, None, sym, ap, ◌∙◌, arith, refl, subst, ⊎_elim, inl, inr, ◌⊎◌}
use Rattle.std.proofs.Math.ListN.{get_or-append}
use Rattle.std.proofs.lemmas.Bool.{cases_eq, cases_lt}
use Rattle.std.proofs.lemmas.Cmp.{lists_total, nat_list_cmp_total}
use Rattle.std.proofs.lemmas.List.{get_or-map, get_or_push, length-append, length-map}
use Rattle.std.specs.Cmp.Lexicographic.{slice_cmp}
use Rattle.std.specs.Ordering.{nat_cmp, ordering_then}
use Rattle.std.specs.declared.cmp.Ordering.TheVariants.{Less}
use Rattle.cost_terms.specs.Table.{Table}
use Rattle.cost_terms.specs.declared.entries.Scored.{Scored}
use Rattle.cost_terms.specs.declared.prices.CostData.{CostData}
use Rattle.plan_program.specs.Plans.{configs}
use Rattle.plan_program.specs.Ways.{way_cost}
use Rattle.plan_program.proofs.Orders.{lists_cmp}
use Rattle.wasp_fixed.proofs.Lists.{list_ext}
use Rattle.best_plans.specs.Best.{AreFirst}
use Rattle.best_plans.specs.Offers.{AreOffers, IsOffer, IsSooner, no_offer, offer_at, ranked_at, reached_at}
use Rattle.best_plans.specs.Reach.{AreReached, AreWays, IsBefore, IsWayTo, onward, told}
use Rattle.best_plans.specs.declared.offers.Offer.{Offer}
use Rattle.best_plans.specs.declared.ranked.Ranked.{Ranked}
use Rattle.best_plans.specs.declared.ranked.Reached.{Reached}
use Rattle.best_plans.proofs.Putting.{among, at_place}

abbrev pub way_at : List (List Scored) → ℕ → List Scored
way_at ws i = get_or ws i []

abbrev pub ways_at : List (List (List Scored)) → ℕ → List (List Scored)
ways_at wss i = get_or wss i []

-- the ways that stand for the first of what is reached
pub record HaveWays (t : Table) (k n : ℕ) (rs : List Reached) (m : ℕ) (wss : List (List (List Scored))) : Type 0 where
  pub long : length wss ≡ m
  pub first : (i : ℕ) → i < m → AreFirst (IsBefore t.economy) (IsWayTo t n (reached_at rs i).config) [] k (ways_at wss i)
  pub tells : (i : ℕ) → i < m → (reached_at rs i).ways ≡ map (told t.economy) (ways_at wss i)

have_ways : (t : Table) (k n : ℕ) (rs : List Reached) → ((i : ℕ) → i < length rs → AreWays t k n (reached_at rs i).config (reached_at rs i).ways) → (m : ℕ) → m ≤ length rs → (wss : List (List (List Scored))) × HaveWays t k n rs m wss
have_ways t k n rs h zero b = ([], record { long = refl; first = λ i c. absurd (omega (arith, c)); tells = λ i c. absurd (omega (arith, c)) })
have_ways t k n rs h (suc m) b = more (have_ways t k n rs h m (omega (arith, b))) (h m (omega (arith, b)))
  where
    more : (wss : List (List (List Scored))) × HaveWays t k n rs m wss → AreWays t k n (reached_at rs m).config (reached_at rs m).ways → (wss : List (List (List Scored))) × HaveWays t k n rs (suc m) wss
    more (wss, g) w =
        let long = length-append wss (w.ways ∷ []) in
        let here : (i : ℕ) → i ≡ m → ways_at (wss ++ w.ways ∷ []) i ≡ w.ways = λ i e. get_or_push wss w.ways [] i (g.long ∙ sym e) in
        let front : (i : ℕ) → i < m → ways_at (wss ++ w.ways ∷ []) i ≡ ways_at wss i = λ i c. get_or-append wss (w.ways ∷ []) [] i (omega (arith, c, g.long)) in
        let has : HaveWays t k n rs (suc m) (wss ++ w.ways ∷ []) = record {
          long = omega (arith, long, g.long);
          first = λ i c. ⊎_elim
              (λ same. subst (λ (ws : List (List Scored)). AreFirst (IsBefore t.economy) (IsWayTo t n (reached_at rs i).config) [] k ws) (sym (here i same)) (subst (λ j. AreFirst (IsBefore t.economy) (IsWayTo t n (reached_at rs j).config) [] k w.ways) (sym same) w.first))
              (λ other. subst (λ (ws : List (List Scored)). AreFirst (IsBefore t.economy) (IsWayTo t n (reached_at rs i).config) [] k ws) (sym (front i (omega (arith, c, other)))) (g.first i (omega (arith, c, other))))
              (cases_eq i m);
          tells = λ i c. ⊎_elim
              (λ same. ap (λ j. (reached_at rs j).ways) same ∙ (w.tells ∙ ap (λ (ws : List (List Scored)). map (told t.economy) ws) (sym (here i same))))
              (λ other. g.tells i (omega (arith, c, other)) ∙ ap (λ (ws : List (List Scored)). map (told t.economy) ws) (sym (front i (omega (arith, c, other)))))
              (cases_eq i m);
        } in
        (wss ++ w.ways ∷ [], has)

-- where a way comes from
pub record From (t : Table) (n : ℕ) (rs : List Reached) (added : List (Option ℕ)) (f : List Scored → List Scored) (v : List Scored) : Type 0 where
  pub place : ℕ
  pub within : place < length rs
  pub adds : ℕ
  pub there : get_or added place None ≡ Some adds
  pub way : List Scored
  pub to : IsWayTo t n (reached_at rs place).config way
  pub same : v ≡ f way

-- a step that makes of each way to what is reached one onward
pub record Step (t : Table) (k n : ℕ) (rs : List Reached) (added : List (Option ℕ)) (f : List Scored → List Scored) (Q : List Scored → Type 0) : Type 0 where
  pub reached : AreReached t k n rs
  pub costs : (i a : ℕ) → i < length rs → get_or added i None ≡ Some a → (w : List Scored) → IsWayTo t n (reached_at rs i).config w → way_cost t.economy (f w) ≡ way_cost t.economy w + a
  pub keeps : (w v : List Scored) → lists_cmp (configs w) (configs v) ≡ Less → lists_cmp (configs (f w)) (configs (f v)) ≡ Less
  pub is : (i a : ℕ) → i < length rs → get_or added i None ≡ Some a → (w : List Scored) → IsWayTo t n (reached_at rs i).config w → Q (f w)
  pub from : (v : List Scored) → Q v → From t n rs added f v

before_trans : (c : CostData) (x y z : List Scored) → IsBefore c x y → IsBefore c y z → IsBefore c x z
before_trans c x y z (inl p) (inl q) = inl (omega (arith, p, q))
before_trans c x y z (inl p) (inr q) = inl (omega (arith, p, q.0))
before_trans c x y z (inr p) (inl q) = inl (omega (arith, p.0, q))
before_trans c x y z (inr p) (inr q) = inr (p.0 ∙ q.0, (lists_total nat_list_cmp_total).trans (configs x) (configs y) (configs z) p.1 q.1)

before_cost : (c : CostData) (x y : List Scored) → IsBefore c x y → way_cost c x ≤ way_cost c y
before_cost c x y h = ⊎_elim (λ less. omega (arith, less)) (λ same. omega (arith, same.0)) h

-- ways that end in rising configurations
by_last : (t : Table) (n : ℕ) (x y : List ℕ) (w v : List Scored) → slice_cmp nat_cmp x y ≡ Less → 1 ≤ n → IsWayTo t n x w → IsWayTo t n y v → lists_cmp (configs w) (configs v) ≡ Less
by_last t n x y [] v h s p q = absurd (omega (arith, s, p.long))
by_last t n x y (d ∷ w) [] h s p q = absurd (omega (arith, s, q.long))
by_last t n x y (d ∷ w) (e ∷ v) h s p q =
    let first : slice_cmp nat_cmp d.config e.config ≡ Less = (λ i. slice_cmp nat_cmp (p.last i) (q.last i)) ∙ h in
    ap (λ o. ordering_then o (lists_cmp (configs w) (configs v))) first

module _ (t : Table) (k n : ℕ) (rs : List Reached) (added : List (Option ℕ)) (f : List Scored → List Scored) (Q : List Scored → Type 0) (s : Step t k n rs added f Q) (wss : List (List (List Scored))) (g : HaveWays t k n rs (length rs) wss) where
  -- the way of an offer
  abbrev way_of : Offer → List Scored
  way_of o = f (way_at (ways_at wss o.place) o.rank)

  ranks : (i : ℕ) → i < length rs → length (reached_at rs i).ways ≡ length (ways_at wss i)
  ranks i b = ap length (g.tells i b) ∙ length-map (ways_at wss i) (told t.economy)

  ranked_is : (i r : ℕ) → i < length rs → r < length (ways_at wss i) → ranked_at (reached_at rs i).ways r ≡ told t.economy (way_at (ways_at wss i) r)
  ranked_is i r b c = ap (λ (xs : List Ranked). ranked_at xs r) (g.tells i b) ∙ get_or-map (told t.economy) (ways_at wss i) r [] (record { configs = []; total = 0 }) c

  total_is : (i r : ℕ) → i < length rs → r < length (ways_at wss i) → (ranked_at (reached_at rs i).ways r).total ≡ way_cost t.economy (way_at (ways_at wss i) r)
  total_is i r b c = ap (λ (x : Ranked). x.total) (ranked_is i r b c)

  rank_of : (o : Offer) → IsOffer rs added o → o.rank < length (ways_at wss o.place)
  rank_of o h = omega (arith, h.rank, ranks o.place h.place)

  to_of : (o : Offer) → IsOffer rs added o → IsWayTo t n (reached_at rs o.place).config (way_at (ways_at wss o.place) o.rank)
  to_of o h = (g.first o.place h.place).each o.rank (rank_of o h)

  cost_of : (o : Offer) → IsOffer rs added o → way_cost t.economy (way_of o) ≡ o.cost
  cost_of o h =
      let w = s.costs o.place h.adds h.place h.there (way_at (ways_at wss o.place) o.rank) (to_of o h) in
      omega (arith, w, total_is o.place o.rank h.place (rank_of o h), h.costs)

  -- the order of two ways to one place stays
  onward_before : (i a : ℕ) (w v : List Scored) → i < length rs → get_or added i None ≡ Some a → IsWayTo t n (reached_at rs i).config w → IsWayTo t n (reached_at rs i).config v → IsBefore t.economy w v → IsBefore t.economy (f w) (f v)
  onward_before i a w v b there p q (inl less) = inl (omega (arith, less, s.costs i a b there w p, s.costs i a b there v q))
  onward_before i a w v b there p q (inr same) = inr (omega (arith, same.0, s.costs i a b there w p, s.costs i a b there v q), s.keeps w v same.1)

  by_place : (o p : Offer) → IsOffer rs added o → IsOffer rs added p → o.place < p.place → lists_cmp (configs (way_of o)) (configs (way_of p)) ≡ Less
  by_place o p h q b =
      let few : 1 ≤ n = ⊎_elim (λ z. absurd (omega (arith, b, q.place, s.reached.start z))) (λ other. omega (arith, other)) (cases_eq n 0) in
      s.keeps (way_at (ways_at wss o.place) o.rank) (way_at (ways_at wss p.place) p.rank)
      (by_last t n (reached_at rs o.place).config (reached_at rs p.place).config (way_at (ways_at wss o.place) o.rank) (way_at (ways_at wss p.place) p.rank) (s.reached.rises o.place p.place b q.place) few (to_of o h) (to_of p q))

  by_rank : (o p : Offer) → IsOffer rs added o → IsOffer rs added p → o.place ≡ p.place → o.rank < p.rank → IsBefore t.economy (way_of o) (way_of p)
  by_rank o p h q e b =
      let w = way_at (ways_at wss p.place) o.rank in
      let here : w ≡ way_at (ways_at wss o.place) o.rank = ap (λ i. way_at (ways_at wss i) o.rank) (sym e) in
      let last : (reached_at rs o.place).config ≡ (reached_at rs p.place).config = ap (λ i. (reached_at rs i).config) e in
      let to : IsWayTo t n (reached_at rs p.place).config w = subst (λ (x : List ℕ). IsWayTo t n x w) last (subst (λ (x : List Scored). IsWayTo t n (reached_at rs o.place).config x) (sym here) (to_of o h)) in
      subst (λ (x : List Scored). IsBefore t.economy (f x) (way_of p)) here
      (onward_before p.place q.adds w (way_at (ways_at wss p.place) p.rank) q.place q.there to (to_of p q) ((g.first p.place q.place).order o.rank p.rank b (rank_of p q)))

  sooner_before : (o p : Offer) → IsOffer rs added o → IsOffer rs added p → IsSooner o p → IsBefore t.economy (way_of o) (way_of p)
  sooner_before o p h q (inl less) = inl (omega (arith, less, cost_of o h, cost_of p q))
  sooner_before o p h q (inr (same, inl less)) = inr (omega (arith, same, cost_of o h, cost_of p q), by_place o p h q less)
  sooner_before o p h q (inr (same, inr rank)) = by_rank o p h q rank.0 rank.1

  -- the offer of a rank of a place
  abbrev offer_of : (i a r : ℕ) → Offer
  offer_of i a r = record { cost = (ranked_at (reached_at rs i).ways r).total + a; place = i; rank = r }

  offer_is : (i a r : ℕ) → i < length rs → get_or added i None ≡ Some a → r < length (ways_at wss i) → IsOffer rs added (offer_of i a r)
  offer_is i a r b there c = record { place = b; rank = omega (arith, c, ranks i b); adds = a; there = there; costs = refl }

  abbrev Full : List Offer → Offer → Type 0
  Full os x = (length os ≡ k) × ((i : ℕ) → i < length os → IsSooner (offer_at os i) x)

  record Deep (os : List Offer) (x : Offer) (r : ℕ) : Type 0 where
    pub at : ℕ
    pub within : at < length os
    pub is : offer_at os at ≡ x
    pub deep : r ≤ at

  -- each rank of a full place stands no higher than its rank, or past the k-th
  climb : (os : List Offer) → AreOffers k rs added (length rs) 0 os → (i a : ℕ) → i < length rs → get_or added i None ≡ Some a → (r : ℕ) → r < length (ways_at wss i) → Deep os (offer_of i a r) r ⊎ Full os (offer_of i a r)
  climb os h i a b there zero c =
      ⊎_elim
      (λ m. inl (record { at = m.0; within = m.1; is = at_place os no_offer (offer_of i a 0) m; deep = omega arith }))
      (λ full. inr full)
      (h.all (offer_of i a 0) (offer_is i a 0 b there c, inl b))
  climb os h i a b there (suc r) c = ⊎_elim deeper further (climb os h i a b there r (omega (arith, c)))
    where
      x : Offer
      x = offer_of i a r

      y : Offer
      y = offer_of i a (suc r)

      rising : x.cost ≤ y.cost
      rising =
          let two = before_cost t.economy (way_at (ways_at wss i) r) (way_at (ways_at wss i) (suc r)) ((g.first i b).order r (suc r) (omega arith) c) in
          omega (arith, two, total_is i r b (omega (arith, c)), total_is i (suc r) b c)

      not_back : IsSooner y x → ⊥
      not_back (inl less) = omega (arith, less, rising)
      not_back (inr (same, inl less)) = omega (arith, less)
      not_back (inr (same, inr rank)) = omega (arith, rank.1)

      deeper : Deep os x r → Deep os y (suc r) ⊎ Full os y
      deeper d = ⊎_elim
          (λ m.
          let is : offer_at os m.0 ≡ y = at_place os no_offer y m in
          inl (record {
            at = m.0;
            within = m.1;
            is = is;
            deep = ⊎_elim
                (λ above. ⊎_elim
                (λ same. absurd (apart (ap (λ (o : Offer). o.rank) (sym d.is ∙ (ap (λ j. offer_at os j) (sym same) ∙ is)))))
                (λ other. absurd (not_back (subst (λ (o : Offer). IsSooner o x) is (subst (λ (o : Offer). IsSooner (offer_at os m.0) o) d.is (h.order m.0 d.at (omega (arith, above, other)) d.within)))))
                (cases_eq m.0 d.at))
                (λ below. omega (arith, below, d.deep))
                (cases_le m.0 d.at);
          }))
          (λ full. inr full)
          (h.all y (offer_is i a (suc r) b there c, inl b))
        where
          apart : r ≡ suc r → ⊥
          apart e = omega (arith, e)

          cases_le : (u v : ℕ) → (u ≤ v) ⊎ (v < u)
          cases_le u v = ⊎_elim (λ less. inr less) (λ more. inl more) (cases_lt v u)

      onwards : (o : Offer) → IsSooner o x → IsSooner o y
      onwards o (inl less) = inl (omega (arith, less, rising))
      onwards o (inr (same, from)) = ⊎_elim
          (λ less. inl less)
          (λ more. inr (omega (arith, same, rising, more), ⊎_elim (λ place. inl place) (λ rank. inr (rank.0, omega (arith, rank.1))) from))
          (cases_lt o.cost y.cost)

      further : Full os x → Deep os y (suc r) ⊎ Full os y
      further full = inr (full.0, λ j d. onwards (offer_at os j) (full.1 j d))

  -- a way that is past the k-th of its place is past the k-th of all
  beyond : (os : List Offer) → AreOffers k rs added (length rs) 0 os → (i a : ℕ) → i < length rs → get_or added i None ≡ Some a → (w : List Scored) → IsWayTo t n (reached_at rs i).config w →
      length (ways_at wss i) ≡ k → ((j : ℕ) → j < length (ways_at wss i) → IsBefore t.economy (way_at (ways_at wss i) j) w) → (length os ≡ k) × ((j : ℕ) → j < length os → IsBefore t.economy (way_of (offer_at os j)) (f w))
  beyond os h i a b there w to full before = ⊎_elim
      (λ z. (omega (arith, z, h.few), λ j c. absurd (omega (arith, c, z, h.few))))
      (λ some. ⊎_elim
      (λ d. (
        omega (arith, d.within, d.deep, h.few, some),
        λ j c. ⊎_elim
            (λ same. subst (λ (o : Offer). IsBefore t.economy (way_of o) (f w)) (sym (ap (λ i. offer_at os i) same ∙ d.is)) (last some))
            (λ other.
            let m : j < d.at = omega (arith, c, other, d.deep, h.few, d.within) in
            before_trans t.economy (way_of (offer_at os j)) (way_of (x some)) (f w) (sooner_before (offer_at os j) (x some) (h.each j c).0 (is_x some) (subst (λ (o : Offer). IsSooner (offer_at os j) o) d.is (h.order j d.at m d.within))) (last some))
            (cases_eq j d.at),
      ))
      (λ past. (past.0, λ j c. before_trans t.economy (way_of (offer_at os j)) (way_of (x some)) (f w) (sooner_before (offer_at os j) (x some) (h.each j c).0 (is_x some) (past.1 j c)) (last some)))
      (climb os h i a b there (k - 1) (omega (arith, some, full))))
      (cases_eq k 0)
    where
      x : (k ≡ 0 → ⊥) → Offer
      x some = offer_of i a (k - 1)

      is_x : (some : k ≡ 0 → ⊥) → IsOffer rs added (x some)
      is_x some = offer_is i a (k - 1) b there (omega (arith, some, full))

      last : (some : k ≡ 0 → ⊥) → IsBefore t.economy (way_of (x some)) (f w)
      last some =
          let c : k - 1 < length (ways_at wss i) = omega (arith, some, full) in
          onward_before i a (way_at (ways_at wss i) (k - 1)) w b there ((g.first i b).each (k - 1) c) to (before (k - 1) c)

  way_there : (os : List Offer) (j : ℕ) → j < length os → way_at (map way_of os) j ≡ way_of (offer_at os j)
  way_there os j b = get_or-map way_of os j no_offer [] b

  abbrev Comes : List Offer → List Scored → Type 0
  Comes os v = Contains (map way_of os) v ⊎ ((length (map way_of os) ≡ k) × ((i : ℕ) → i < length (map way_of os) → IsBefore t.economy (way_at (map way_of os) i) v))

  selected : (os : List Offer) → AreOffers k rs added (length rs) 0 os → AreFirst (IsBefore t.economy) Q [] k (map way_of os)
  selected os h =
      let n' = length-map os way_of in
      record {
        few = omega (arith, n', h.few);
        each = λ j b.
            let c : j < length os = omega (arith, b, n') in
            let o = (h.each j c).0 in
            rw (way_there os j c) (s.is (offer_at os j).place o.adds o.place o.there (way_at (ways_at wss (offer_at os j).place) (offer_at os j).rank) (to_of (offer_at os j) o));
        order = λ i j b d.
            let c : j < length os = omega (arith, d, n') in
            let e : i < length os = omega (arith, b, c) in
            rw (way_there os i e) (rw (way_there os j c) (sooner_before (offer_at os i) (offer_at os j) (h.each i e).0 (h.each j c).0 (h.order i j b c)));
        all = λ v q. of v (s.from v q);
      }
    where
      past : (v : List Scored) → length os ≡ k → ((j : ℕ) → j < length os → IsBefore t.economy (way_of (offer_at os j)) v) → Comes os v
      past v full b = inr (length-map os way_of ∙ full, λ i c. past_at v b i (omega (arith, c, length-map os way_of)))
        where
          past_at : (v : List Scored) → ((j : ℕ) → j < length os → IsBefore t.economy (way_of (offer_at os j)) v) → (i : ℕ) → i < length os → IsBefore t.economy (way_at (map way_of os) i) v
          past_at v b i d = rw (way_there os i d) (b i d)

      of : (v : List Scored) → From t n rs added f v → Comes os v
      of v u = subst (λ (x : List Scored). Comes os x) (sym u.same) (⊎_elim known out ((g.first u.place u.within).all u.way u.to))
        where
          out : (length (ways_at wss u.place) ≡ k) × ((i : ℕ) → i < length (ways_at wss u.place) → IsBefore t.economy (way_at (ways_at wss u.place) i) u.way) → Comes os (f u.way)
          out p = let z = beyond os h u.place u.adds u.within u.there u.way u.to p.0 p.1 in past (f u.way) z.0 z.1

          known : Contains (ways_at wss u.place) u.way → Comes os (f u.way)
          known m =
              let is : way_at (ways_at wss u.place) m.0 ≡ u.way = at_place (ways_at wss u.place) [] u.way m in
              let x = offer_of u.place u.adds m.0 in
              let is_x = offer_is u.place u.adds m.0 u.within u.there m.1 in
              subst (λ (y : List Scored). Comes os (f y)) is (⊎_elim
              (λ at. inl (among (map way_of os) [] (way_of x) at.0 (omega (arith, at.1, length-map os way_of)) (way_there os at.0 at.1 ∙ ap way_of (at_place os no_offer x at))))
              (λ full. past (way_of x) full.0 (λ j c. sooner_before (offer_at os j) x (h.each j c).0 is_x (full.1 j c)))
              (h.all x (is_x, inl u.within)))

  -- and what they tell
  tells : (os : List Offer) (tail : List (List ℕ)) → AreOffers k rs added (length rs) 0 os → ((w : List Scored) → configs (reverse (f w)) ≡ configs (reverse w) ++ tail) → map (onward rs tail) os ≡ map (told t.economy) (map way_of os)
  tells os tail h ends =
      let no_ranked : Ranked = record { configs = []; total = 0 } in
      let m = length-map os (onward rs tail) in
      let m' = length-map os way_of in
      let m'' = length-map (map way_of os) (told t.economy) in
      list_ext no_ranked (map (onward rs tail) os) (map (told t.economy) (map way_of os)) (omega (arith, m, m', m'')) (λ j b.
      let c : j < length os = omega (arith, b, m) in
      let o = offer_at os j in
      let is = (h.each j c).0 in
      let w = way_at (ways_at wss o.place) o.rank in
      let shown : (ranked_at (reached_at rs o.place).ways o.rank).configs ++ tail ≡ configs (reverse (way_of o)) =
      ap (λ (x : Ranked). x.configs ++ tail) (ranked_is o.place o.rank is.place (rank_of o is)) ∙ sym (ends w) in
      let one : onward rs tail o ≡ told t.economy (way_of o) = λ i. record { configs = shown i; total = sym (cost_of o is) i } in
      get_or-map (onward rs tail) os j no_offer no_ranked c ∙ (one ∙ sym (get_or-map (told t.economy) (map way_of os) j [] no_ranked (omega (arith, c, m')) ∙ ap (told t.economy) (way_there os j c))))

-- the k best ways after a step
pub after : (t : Table) (k n : ℕ) (rs : List Reached) (added : List (Option ℕ)) (f : List Scored → List Scored) (Q : List Scored → Type 0) (os : List Offer) (tail : List (List ℕ)) → Step t k n rs added f Q → AreOffers k rs added (length rs) 0 os →
    ((w : List Scored) → configs (reverse (f w)) ≡ configs (reverse w) ++ tail) → (ws : List (List Scored)) × (AreFirst (IsBefore t.economy) Q [] k ws × (map (onward rs tail) os ≡ map (told t.economy) ws))
after t k n rs added f Q os tail s h ends =
    let c = have_ways t k n rs s.reached.each (length rs) (omega arith) in
    (map (way_of t k n rs added f Q s c.0 c.1) os, (selected t k n rs added f Q s c.0 c.1 os h, tells t k n rs added f Q s c.0 c.1 os tail h ends))
