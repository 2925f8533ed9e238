-- Offers put in turn, and the first k of them.
use Rattle.std.proofs.Common.{◌≡◌, ℕ, ◌+◌, ◌-◌, ◌<◌, ◌≤◌, List, [], length, get_or, min, Contains, Option, Some, None, sym, ap, ◌∙◌, arith, refl, subst, ⊎_elim, inl, inr, ◌⊎◌}
use Rattle.std.proofs.lemmas.Bool.{cases_eq, cases_lt}
use Rattle.std.proofs.lemmas.List.{get_or_default, get_or-take, length-take}
use Rattle.std.proofs.lemmas.List.Edits.{get_or-insert_at, get_or-insert_above, get_or-insert_below, length-insert}
use Rattle.std.proofs.lemmas.Option.{none-some}
use Rattle.std.specs.List.{insert}
use Rattle.std.specs.Option.{unwrap_or}
use Rattle.best_plans.specs.Offers.{AreOffers, ComesFrom, IsOffer, IsPut, IsSooner, no_offer, offer_at, ranked_at, reached_at}
use Rattle.best_plans.specs.declared.offers.Offer.{Offer}
use Rattle.best_plans.specs.declared.ranked.Reached.{Reached}

pub some_one : (a b : ℕ) (o : Option ℕ) → o ≡ Some a → o ≡ Some b → a ≡ b
some_one a b o e f = ap (λ (x : Option ℕ). unwrap_or x 0) (sym e ∙ f)

-- what is among a list, by its place
pub among : {X : Type 0} → (xs : List X) (d x : X) (i : ℕ) → i < length xs → get_or xs i d ≡ x → Contains xs x
among xs d x i h e = (i, h, get_or_default xs i x d h ∙ e)

pub at_place : {X : Type 0} → (xs : List X) (d x : X) → (c : Contains xs x) → get_or xs c.0 d ≡ x
at_place xs d x (i, h, e) = get_or_default xs i d x h ∙ e

-- the same place and rank: the same offer
pub same_offer : (rs : List Reached) (added : List (Option ℕ)) (o p : Offer) → IsOffer rs added o → IsOffer rs added p → o.place ≡ p.place → o.rank ≡ p.rank → o ≡ p
same_offer rs added o p h g e f =
    let adds : h.adds ≡ g.adds = some_one h.adds g.adds (get_or added o.place None) h.there (ap (λ i. get_or added i None) e ∙ g.there) in
    let costs : o.cost ≡ p.cost = h.costs ∙ ((λ i. (ranked_at (reached_at rs (e i)).ways (f i)).total + adds i) ∙ sym g.costs) in
    λ i. record { cost = costs i; place = e i; rank = f i }

pub sooner_cost : (o p : Offer) → IsSooner o p → o.cost ≤ p.cost
sooner_cost o p h = ⊎_elim (λ less. omega (arith, less)) (λ same. omega (arith, same.0)) h

pub no_offers : (k : ℕ) (rs : List Reached) (added : List (Option ℕ)) → AreOffers k rs added 0 0 []
no_offers k rs added = record {
  few = omega arith;
  each = λ i h. absurd (omega (arith, h));
  order = λ i j h g. absurd (omega (arith, g));
  all = λ o h. absurd (⊎_elim (λ less. omega (arith, less)) (λ same. omega (arith, same.1)) h.1);
}

-- the same offers, from before another place and rank
pub recast : (k : ℕ) (rs : List Reached) (added : List (Option ℕ)) (place rank place' rank' : ℕ) (os : List Offer) → AreOffers k rs added place rank os →
    ((o : Offer) → IsOffer rs added o → ComesFrom place rank o → ComesFrom place' rank' o) → ((o : Offer) → IsOffer rs added o → ComesFrom place' rank' o → ComesFrom place rank o) → AreOffers k rs added place' rank' os
recast k rs added place rank place' rank' os h to from = record {
  few = h.few;
  each = λ i b. let e = h.each i b in (e.0, to (offer_at os i) e.0 e.1);
  order = h.order;
  all = λ o s. h.all o (s.0, from o s.0 s.1);
}

-- a place where nothing is added
pub skipped : (k : ℕ) (rs : List Reached) (added : List (Option ℕ)) (place : ℕ) (os : List Offer) → AreOffers k rs added place 0 os → get_or added place None ≡ None → AreOffers k rs added (place + 1) 0 os
skipped k rs added place os h none = recast k rs added place 0 (place + 1) 0 os h
    (λ o s c. ⊎_elim (λ less. inl (omega (arith, less))) (λ same. absurd (omega (arith, same.1))) c)
    (λ o s c. ⊎_elim
    (λ less. ⊎_elim
    (λ same. absurd (none-some s.adds (sym none ∙ (ap (λ i. get_or added i None) (sym same) ∙ s.there))))
    (λ other. inl (omega (arith, less, other)))
    (cases_eq o.place place))
    (λ same. absurd (omega (arith, same.1)))
    c)

-- a place whose ranks are all taken in
pub passed : (k : ℕ) (rs : List Reached) (added : List (Option ℕ)) (place ranks : ℕ) (os : List Offer) → AreOffers k rs added place ranks os → ranks ≡ length (reached_at rs place).ways → AreOffers k rs added (place + 1) 0 os
passed k rs added place ranks os h long = recast k rs added place ranks (place + 1) 0 os h
    (λ o s c. ⊎_elim (λ less. inl (omega (arith, less))) (λ same. inl (omega (arith, same.0))) c)
    (λ o s c. ⊎_elim
    (λ less. ⊎_elim
    (λ same. inr (same, omega (arith, s.rank, long, ap (λ i. length (reached_at rs i).ways) same)))
    (λ other. inl (omega (arith, less, other)))
    (cases_eq o.place place))
    (λ same. absurd (omega (arith, same.1)))
    c)

-- where an offer stands after one is put
abbrev Spot : List Offer → Offer → ℕ → ℕ → Offer → Type 0
Spot old o p i x = ((i < p) × (x ≡ offer_at old i)) ⊎ (((i ≡ p) × (x ≡ o)) ⊎ ((p < i) × ((i - 1 < length old) × (x ≡ offer_at old (i - 1)))))

record Put (k : ℕ) (rs : List Reached) (added : List (Option ℕ)) (place rank : ℕ) (o : Offer) (old new : List Offer) : Type 0 where
  pub first : AreOffers k rs added place rank old
  pub is_offer : IsOffer rs added o
  pub place_is : o.place ≡ place
  pub rank_is : o.rank ≡ rank
  pub put : IsPut k o old new

new_length : (k : ℕ) (o : Offer) (old new : List Offer) → (p : IsPut k o old new) → length new ≡ min k (length old + 1)
new_length k o old new p = ap length p.is ∙ (length-take k (insert old p.place o) ∙ ap (λ n. min k n) (length-insert old p.place o p.within))

spot : (k : ℕ) (o : Offer) (old new : List Offer) → (p : IsPut k o old new) → (i : ℕ) → i < length new → Spot old o p.place i (offer_at new i)
spot k o old new p i h =
    let n = new_length k o old new p in
    let at : offer_at new i ≡ offer_at (insert old p.place o) i = ap (λ (xs : List Offer). offer_at xs i) p.is ∙ get_or-take k (insert old p.place o) i no_offer (omega (arith, h, n)) in
    ⊎_elim
    (λ below. inl (below, at ∙ get_or-insert_below old p.place o no_offer i below p.within))
    (λ above. ⊎_elim
    (λ same. inr (inl (same, at ∙ (ap (λ j. offer_at (insert old p.place o) j) same ∙ get_or-insert_at old p.place o no_offer p.within))))
    (λ other.
    let next : i ≡ i - 1 + 1 = omega (arith, above, other) in
    inr (inr (omega (arith, above, other), (omega (arith, h, n, above, other), at ∙ (ap (λ j. offer_at (insert old p.place o) j) next ∙ get_or-insert_above old p.place o no_offer (i - 1) (omega (arith, above, other)) p.within)))))
    (cases_eq i p.place))
    (cases_lt i p.place)

before_o : (k : ℕ) (rs : List Reached) (added : List (Option ℕ)) (place rank : ℕ) (o : Offer) (old new : List Offer) → (h : Put k rs added place rank o old new) → (i : ℕ) → i < h.put.place → IsSooner (offer_at old i) o
before_o k rs added place rank o old new h i b =
    let cheap = h.put.below i b in
    ⊎_elim
    (λ less. inl less)
    (λ more. inr (omega (arith, cheap, more), rw h.place_is (rw h.rank_is (h.first.each i (omega (arith, b, h.put.within))).1)))
    (cases_lt (offer_at old i).cost o.cost)

after_o : (k : ℕ) (rs : List Reached) (added : List (Option ℕ)) (place rank : ℕ) (o : Offer) (old new : List Offer) → (h : Put k rs added place rank o old new) → (i : ℕ) → h.put.place ≤ i → i < length old → o.cost < (offer_at old i).cost
after_o k rs added place rank o old new h i b within =
    let dear = h.put.above (omega (arith, b, within)) in
    ⊎_elim
    (λ same. rw same dear)
    (λ other. omega (arith, dear, sooner_cost (offer_at old h.put.place) (offer_at old i) (h.first.order h.put.place i (omega (arith, b, other)) within)))
    (cases_eq i h.put.place)

ordered : (k : ℕ) (rs : List Reached) (added : List (Option ℕ)) (place rank : ℕ) (o : Offer) (old new : List Offer) → (h : Put k rs added place rank o old new) → (i j : ℕ) (x y : Offer) → i < j → Spot old o h.put.place i x → Spot old o h.put.place j y → j - 1 < length old → IsSooner x y
ordered k rs added place rank o old new h i j x y b (inl s) (inl r) d = rw s.1 (rw r.1 (h.first.order i j b (omega (arith, r.0, h.put.within))))
ordered k rs added place rank o old new h i j x y b (inl s) (inr (inl r)) d = rw s.1 (rw r.1 (before_o k rs added place rank o old new h i s.0))
ordered k rs added place rank o old new h i j x y b (inl s) (inr (inr r)) d = rw s.1 (rw r.1.1 (h.first.order i (j - 1) (omega (arith, s.0, r.0)) r.1.0))
ordered k rs added place rank o old new h i j x y b (inr (inl s)) (inl r) d = absurd (omega (arith, b, s.0, r.0))
ordered k rs added place rank o old new h i j x y b (inr (inl s)) (inr (inl r)) d = absurd (omega (arith, b, s.0, r.0))
ordered k rs added place rank o old new h i j x y b (inr (inl s)) (inr (inr r)) d = rw s.1 (rw r.1.1 (inl (after_o k rs added place rank o old new h (j - 1) (omega (arith, r.0)) r.1.0)))
ordered k rs added place rank o old new h i j x y b (inr (inr s)) (inl r) d = absurd (omega (arith, b, s.0, r.0))
ordered k rs added place rank o old new h i j x y b (inr (inr s)) (inr (inl r)) d = absurd (omega (arith, b, s.0, r.0))
ordered k rs added place rank o old new h i j x y b (inr (inr s)) (inr (inr r)) d = rw s.1.1 (rw r.1.1 (h.first.order (i - 1) (j - 1) (omega (arith, b, s.0)) r.1.0))

-- all that stands after the put comes before an offer, given that the old ones do so far
all_before : (k : ℕ) (rs : List Reached) (added : List (Option ℕ)) (place rank : ℕ) (o : Offer) (old new : List Offer) → (h : Put k rs added place rank o old new) → (w : Offer) (n : ℕ) →
    ((i : ℕ) → i < n → i < length old → IsSooner (offer_at old i) w) → (h.put.place < k → IsSooner o w) → k ≤ n + 1 → (h.put.place ≤ n) ⊎ (k ≤ n) → (i : ℕ) → i < length new → IsSooner (offer_at new i) w
all_before k rs added place rank o old new h w n olds here few low i b = go (offer_at new i) (spot k o old new h.put i b)
  where
    long : length new ≡ min k (length old + 1)
    long = new_length k o old new h.put

    go : (x : Offer) → Spot old o h.put.place i x → IsSooner x w
    go x (inl s) = rw s.1 (olds i (⊎_elim (λ l. omega (arith, s.0, l)) (λ l. omega (arith, b, long, l)) low) (omega (arith, s.0, h.put.within)))
    go x (inr (inl s)) = rw s.1 (here (omega (arith, s.0, b, long)))
    go x (inr (inr s)) = rw s.1.1 (olds (i - 1) (omega (arith, s.0, b, long, few)) s.1.0)

put_new : (k : ℕ) (rs : List Reached) (added : List (Option ℕ)) (place rank : ℕ) (o : Offer) (old new : List Offer) → Put k rs added place rank o old new → Contains new o ⊎ ((length new ≡ k) × ((i : ℕ) → i < length new → IsSooner (offer_at new i) o))
put_new k rs added place rank o old new h =
    let n = new_length k o old new h.put in
    let p = h.put.place in
    ⊎_elim
    (λ below.
    let within : p < length new = omega (arith, below, n, h.put.within) in
    inl (among new no_offer o p within (ap (λ (xs : List Offer). offer_at xs p) h.put.is ∙ (get_or-take k (insert old p o) p no_offer below ∙ get_or-insert_at old p o no_offer h.put.within))))
    (λ above. inr (
      omega (arith, above, n, h.put.within, h.first.few),
      all_before k rs added place rank o old new h o p (λ i b c. before_o k rs added place rank o old new h i b) (λ b. absurd (omega (arith, b, above))) (omega (arith, above)) (inl (omega arith)),
    ))
    (cases_lt p k)

put_old : (k : ℕ) (rs : List Reached) (added : List (Option ℕ)) (place rank : ℕ) (o : Offer) (old new : List Offer) → Put k rs added place rank o old new → (w : Offer) → IsOffer rs added w → ComesFrom place rank w → Contains new w ⊎ ((length new ≡ k) × ((i : ℕ) → i < length new → IsSooner (offer_at new i) w))
put_old k rs added place rank o old new h w is from = ⊎_elim there full (h.first.all w (is, from))
  where
    p : ℕ
    p = h.put.place

    n : length new ≡ min k (length old + 1)
    n = new_length k o old new h.put

    at : (i : ℕ) → i < k → offer_at new i ≡ offer_at (insert old h.put.place o) i
    at i b = ap (λ (xs : List Offer). offer_at xs i) h.put.is ∙ get_or-take k (insert old h.put.place o) i no_offer b

    full : (length old ≡ k) × ((i : ℕ) → i < length old → IsSooner (offer_at old i) w) → Contains new w ⊎ ((length new ≡ k) × ((i : ℕ) → i < length new → IsSooner (offer_at new i) w))
    full f = inr (
      omega (arith, n, f.0),
      all_before k rs added place rank o old new h w (length old) (λ i b c. f.1 i c)
          (λ b. inl (less (h.put.above (omega (arith, b, f.0))) (sooner_cost (offer_at old h.put.place) w (f.1 h.put.place (omega (arith, b, f.0)))))) (omega (arith, f.0)) (inl h.put.within),
    )
      where
        less : {a b c : ℕ} → a < b → b ≤ c → a < c
        less f g = omega (arith, f, g)

    there : Contains old w → Contains new w ⊎ ((length new ≡ k) × ((i : ℕ) → i < length new → IsSooner (offer_at new i) w))
    there c =
        let i = c.0 in
        let is_at : offer_at old i ≡ w = at_place old no_offer w c in
        ⊎_elim
        (λ below.
        inl (among new no_offer w i (omega (arith, below, n, c.1, h.first.few)) (at i (omega (arith, c.1, h.first.few)) ∙ (get_or-insert_below old h.put.place o no_offer i below h.put.within ∙ is_at))))
        (λ above. ⊎_elim
        (λ inside. inl (among new no_offer w (i + 1) (omega (arith, inside, n, c.1)) (at (i + 1) inside ∙ (get_or-insert_above old h.put.place o no_offer i above h.put.within ∙ is_at))))
        (λ out. inr (
          omega (arith, out, n, c.1, h.first.few),
          all_before k rs added place rank o old new h w i (λ j b g. rw (← is_at) (h.first.order j i b c.1)) (λ b. rw (← is_at) (inl (after_o k rs added place rank o old new h i above c.1))) out (inl above),
        ))
        (cases_lt (i + 1) k))
        (cases_lt i h.put.place)

put_first : (k : ℕ) (rs : List Reached) (added : List (Option ℕ)) (place rank : ℕ) (o : Offer) (old new : List Offer) → Put k rs added place rank o old new → AreOffers k rs added place (rank + 1) new
put_first k rs added place rank o old new h =
    let n = new_length k o old new h.put in
    record {
      few = omega (arith, n);
      each = λ i b. each (offer_at new i) i (spot k o old new h.put i b);
      order = λ i j b d. ordered k rs added place rank o old new h i j (offer_at new i) (offer_at new j) b (spot k o old new h.put i (omega (arith, b, d))) (spot k o old new h.put j d) (omega (arith, b, d, n));
      all = λ w s. ⊎_elim
          (λ less. put_old k rs added place rank o old new h w s.0 (inl less))
          (λ same. ⊎_elim
          (λ here.
          let one : o ≡ w = same_offer rs added o w h.is_offer s.0 (h.place_is ∙ sym same.0) (h.rank_is ∙ sym here) in
          subst (λ (x : Offer). Contains new x ⊎ ((length new ≡ k) × ((i : ℕ) → i < length new → IsSooner (offer_at new i) x))) one (put_new k rs added place rank o old new h))
          (λ other. put_old k rs added place rank o old new h w s.0 (inr (same.0, omega (arith, same.1, other))))
          (cases_eq w.rank rank))
          s.1;
    }
  where
    later : (x : Offer) → ComesFrom place rank x → ComesFrom place (rank + 1) x
    later x c = ⊎_elim (λ less. inl less) (λ same. inr (same.0, omega (arith, same.1))) c

    old_one : (i : ℕ) → i < length old → IsOffer rs added (offer_at old i) × ComesFrom place (rank + 1) (offer_at old i)
    old_one i b = let e = h.first.each i b in (e.0, later (offer_at old i) e.1)

    each : (x : Offer) (i : ℕ) → Spot old o h.put.place i x → IsOffer rs added x × ComesFrom place (rank + 1) x
    each x i (inl s) = rw s.1 (old_one i (omega (arith, s.0, h.put.within)))
    each x i (inr (inl s)) = rw s.1 (h.is_offer, inr (h.place_is, omega (arith, h.rank_is)))
    each x i (inr (inr s)) = rw s.1.1 (old_one (i - 1) s.1.0)

-- an offer of a rank is put
pub put_rank : (k : ℕ) (rs : List Reached) (added : List (Option ℕ)) (place rank adds cost : ℕ) (old new : List Offer) → AreOffers k rs added place rank old → place < length rs → rank < length (reached_at rs place).ways → get_or added place None ≡ Some adds →
    cost ≡ (ranked_at (reached_at rs place).ways rank).total + adds → IsPut k (record { cost = cost; place = place; rank = rank }) old new → AreOffers k rs added place (rank + 1) new
put_rank k rs added place rank adds cost old new h b r there costs put =
    put_first k rs added place rank (record { cost = cost; place = place; rank = rank }) old new (record { first = h; is_offer = record { place = b; rank = r; adds = adds; there = there; costs = costs }; place_is = refl; rank_is = refl; put = put })
