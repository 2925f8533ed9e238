-- The best plan to an entry, and the chosen plan.
use Rattle.std.proofs.Common.{◌≡◌, ℕ, zero, suc, ◌+◌, ◌-◌, ◌<◌, ◌≤◌, List, [], ◌∷◌, ◌++◌, length, reverse, get_or, Contains, Option, Some, None, sym, ap, ◌∙◌, arith, refl, subst, ⊎_elim, inl, inr, ◌≢◌}
use Rattle.std.proofs.lemmas.Bool.{cases_eq, cases_lt}
use Rattle.std.proofs.lemmas.List.{get_or_past, length-reverse, reverse-reverse}
use Rattle.std.proofs.lemmas.Option.{none-some}
use Rattle.std.specs.Cmp.Lexicographic.{slice_cmp}
use Rattle.std.specs.Option.{unwrap_or}
use Rattle.std.specs.Ordering.{nat_cmp}
use Rattle.std.specs.declared.cmp.Ordering.TheVariants.{Less, Greater}
use Rattle.plant_data.specs.Configs.{IsAtMost}
use Rattle.cost_terms.specs.Cost.{step_cost}
use Rattle.cost_terms.specs.Table.{IsTable, Rises, Table, plan_cost}
use Rattle.cost_terms.specs.declared.entries.Scored.{Scored}
use Rattle.cost_terms.specs.declared.prices.CostData.{CostData}
use Rattle.plan_program.specs.Chosen.{HasPlan, IsInfeasible, IsNoWorse, IsPlanOf}
use Rattle.plan_program.specs.CostToCome.{AreCostsToCome, IsCostToCome, IsPlanTo, come_at}
use Rattle.plan_program.specs.Plans.{configs, entry_at, layer_at, no_entry}
use Rattle.plan_program.specs.Steps.{AreWayCosts, HasLead, HasNumber, IsBefore, IsLeastPlace, IsUnreached, LeadsTo}
use Rattle.plan_program.specs.Ways.{IsBestTo, IsLeastWay, IsWay, IsWayCost, TellsBest, way_cost}
use Rattle.plan_program.proofs.Forward.{place_of, way_cost_some, way_number}
use Rattle.plan_program.proofs.Orders.{NoWorse, configs_push, less_first, lists_cmp, no_worse, none_none, same_first, worse_no}
use Rattle.plan_program.proofs.Ways.{admissible_none, cost_same, plan_way, reverse_more, way_of, way_plan, way_to}

-- one more year costs its step
pub one_more : (c : CostData) (k : ℕ) (e d : Scored) (ds : List Scored) → length ds ≡ k → way_cost c (e ∷ d ∷ ds) ≡ way_cost c (d ∷ ds) + step_cost c (k + 1 + 1) d.config e.config e.row
one_more c k e d ds h =
    let year : length (d ∷ ds) + 1 ≡ k + 1 + 1 = omega (arith, h) in
    ap (λ n. way_cost c (d ∷ ds) + step_cost c n d.config e.config e.row) year

-- an entry of the year before with a way that ends in it, as a way to the next entry
extended : (t : Table) (k : ℕ) (e d d' : Scored) (ds ds' : List Scored) → length ds ≡ k → length ds' ≡ k → d.config ≡ d'.config → IsWay t (e ∷ d ∷ ds) → IsWay t (d' ∷ ds') → IsWay t (e ∷ d' ∷ ds')
extended t k e d d' ds ds' h h' same w w' =
    let n : length (d ∷ ds) ≡ length (d' ∷ ds') = omega (arith, h, h') in
    (omega (arith, w.0, n), subst (λ x. Contains (layer_at t x) e) n w.1, subst (λ (x : List ℕ). IsAtMost x e.config) same w.2, w')

-- what a way over the entry d says of the cost-to-come of d and of e
pub record Passed (t : Table) (k : ℕ) (e d : Scored) (ds : List Scored) (come : List (Option ℕ)) (cost : ℕ) : Type 0 where
  pub place : ℕ
  pub within : place < length (layer_at t k)
  pub is : entry_at (layer_at t k) place ≡ d
  pub before : ℕ
  pub has : get_or come place None ≡ Some before
  pub cheap : before ≤ way_cost t.economy (d ∷ ds)
  pub least : cost ≤ before + step_cost t.economy (k + 1 + 1) d.config e.config e.row

pub passed : (t : Table) (k : ℕ) (e d : Scored) (ds : List Scored) (come : List (Option ℕ)) (cost : ℕ) → ((j : ℕ) → j < length (layer_at t k) → IsWayCost t k (entry_at (layer_at t k) j) (get_or come j None)) →
    IsLeastWay t (k + 1) e cost → IsWay t (e ∷ d ∷ ds) → length ds ≡ k → Passed t k e d ds come cost
passed t k e d ds come cost ways l w long =
    let p = place_of (layer_at t k) d (subst (λ n. Contains (layer_at t n) d) long w.3.1) in
    let way : IsWayCost t k d (get_or come p.place None) = subst (λ (x : Scored). IsWayCost t k x (get_or come p.place None)) p.is (ways p.place p.within) in
    let n = way_number t k d (get_or come p.place None) ds way w.3 long in
    let b = way_cost_some t k d (get_or come p.place None) n.cost way n.is in
    let through : cost ≤ way_cost t.economy (e ∷ d ∷ b.before) = l.least (d ∷ b.before) (extended t k e d d ds b.before long b.long refl w b.way) (omega (arith, b.long)) in
    record {
      place = p.place;
      within = p.within;
      is = p.is;
      before = n.cost;
      has = n.is;
      cheap = n.cheap;
      least = rw (← b.costs) (rw (← one_more t.economy k e d b.before b.long) through);
    }

-- some entry of the year before leads to an entry at its cost-to-come
pub lead_of : (t : Table) (k : ℕ) (e : Scored) (come : List (Option ℕ)) (cost : ℕ) → ((j : ℕ) → j < length (layer_at t k) → IsWayCost t k (entry_at (layer_at t k) j) (get_or come j None)) → IsLeastWay t (k + 1) e cost → HasLead t.economy (k + 1 + 1) (layer_at t k) come e cost
lead_of t k e come cost ways l = lead l.before l.way l.long l.costs
  where
    equal : (a b s v : ℕ) → a + s ≡ v → b ≤ a → v ≤ b + s → b + s ≡ v
    equal a b s v f g h = omega (arith, f, g, h)

    lead : (before : List Scored) → IsWay t (e ∷ before) → length before ≡ k + 1 → way_cost t.economy (e ∷ before) ≡ cost → HasLead t.economy (k + 1 + 1) (layer_at t k) come e cost
    lead [] w long costs = absurd (omega (arith, long))
    lead (d ∷ ds) w long costs =
        let long' : length ds ≡ k = omega (arith, long) in
        let p = passed t k e d ds come cost ways l w long' in
        let same : (entry_at (layer_at t k) p.place).config ≡ d.config = ap (λ (x : Scored). x.config) p.is in
        record {
          place = p.place;
          within = p.within;
          leads = record {
            before = p.before;
            has = p.has;
            grows = rw same w.2;
            costs = ap (λ (x : List ℕ). p.before + step_cost t.economy (k + 1 + 1) x e.config e.row) same
                ∙ equal (way_cost t.economy (d ∷ ds)) p.before (step_cost t.economy (k + 1 + 1) d.config e.config e.row) cost (sym (one_more t.economy k e d ds long') ∙ costs) p.cheap p.least;
          };
        }

-- a best plan costs what the cost-to-come says
pub best_cost : (t : Table) (k : ℕ) (e : Scored) (before : List Scored) (cost : ℕ) → IsBestTo t e before → length before ≡ k → IsLeastWay t k e cost → way_cost t.economy (e ∷ before) ≡ cost
best_cost t k e before cost b long l =
    let low : cost ≤ way_cost t.economy (e ∷ before) = l.least before b.way long in
    let high : NoWorse t.economy (e ∷ before) (e ∷ l.before) = worse_no t.economy (e ∷ before) (e ∷ l.before) (b.best l.before l.way (l.long ∙ sym long)) in
    ⊎_elim (λ less. absurd (below _ _ cost low l.costs less)) (λ same. same.0 ∙ l.costs) high
  where
    below : (x y v : ℕ) → v ≤ x → y ≡ v → x < y → ⊥
    below x y v f g h = omega (arith, f, g, h)

best_first : (t : Table) (e : Scored) → IsWay t (e ∷ []) → IsBestTo t e []
best_first t e w = record { way = w; best = λ other w' long. first other long }
  where
    first : (other : List Scored) → length other ≡ 0 → IsNoWorse t.economy (reverse (e ∷ [])) (reverse (e ∷ other))
    first [] long = no_worse t.economy (e ∷ []) (e ∷ []) (inr (refl, rw (same_first e.config [] []) none_none))
    first (d ∷ other) long = absurd (omega (arith, long))

pub tells_first : (t : Table) (e : Scored) (shown : List (List ℕ)) (come : Option ℕ) (cost : ℕ) → IsWayCost t 0 e come → come ≡ Some cost → shown ≡ e.config ∷ [] → TellsBest t 0 e shown
tells_first t e shown come cost h has s =
    let w = way_cost_some t 0 e come cost h has in
    record { before = []; best = best_first t e (first w.before w.way w.long); long = refl; told = s }
  where
    first : (before : List Scored) → IsWay t (e ∷ before) → length before ≡ 0 → IsWay t (e ∷ [])
    first [] w long = w
    first (d ∷ before) w long = absurd (omega (arith, long))

-- what the step to the best entry of the year before knows
pub record Chooses (t : Table) (k : ℕ) (e d : Scored) (ds : List Scored) (come : List (Option ℕ)) (i cost : ℕ) : Type 0 where
  pub ways : (j : ℕ) → j < length (layer_at t k) → IsWayCost t k (entry_at (layer_at t k) j) (get_or come j None)
  pub rises : Rises (layer_at t k)
  pub within : i < length (layer_at t k)
  pub is : entry_at (layer_at t k) i ≡ d
  pub leads : LeadsTo t.economy (k + 1 + 1) d (get_or come i None) e cost
  pub first : (j : ℕ) → j < i → LeadsTo t.economy (k + 1 + 1) (entry_at (layer_at t k) j) (get_or come j None) e cost → ⊥
  pub best : IsBestTo t d ds
  pub long : length ds ≡ k
  pub least : IsLeastWay t (k + 1) e cost

rises_at : (layer : List Scored) → Rises layer → (i j : ℕ) (d d' : Scored) → i < j → j < length layer → entry_at layer i ≡ d → entry_at layer j ≡ d' → slice_cmp nat_cmp d.config d'.config ≡ Less
rises_at layer r i j d d' h b e f = rw (← e) (rw (← f) (r i j no_entry h b))

-- the way over the chosen entry costs the cost-to-come
chosen_cost : (t : Table) (k : ℕ) (e d : Scored) (ds : List Scored) (come : List (Option ℕ)) (i cost : ℕ) → Chooses t k e d ds come i cost → way_cost t.economy (e ∷ d ∷ ds) ≡ cost
chosen_cost t k e d ds come i cost c =
    let way = way_cost_some t k d (get_or come i None) c.leads.before (subst (λ (x : Scored). IsWayCost t k x (get_or come i None)) c.is (c.ways i c.within)) c.leads.has in
    one_more t.economy k e d ds c.long ∙ (ap (λ x. x + step_cost t.economy (k + 1 + 1) d.config e.config e.row) (best_cost t k d ds c.leads.before c.best c.long way) ∙ c.leads.costs)

chosen_way : (t : Table) (k : ℕ) (e d : Scored) (ds : List Scored) (come : List (Option ℕ)) (i cost : ℕ) → Chooses t k e d ds come i cost → IsWay t (e ∷ d ∷ ds)
chosen_way t k e d ds come i cost c =
    (omega (arith, c.least.way.0, c.least.long, c.long), subst (λ n. Contains (layer_at t n) e) (c.least.long ∙ omega (arith, c.long)) c.least.way.1, c.leads.grows, c.best.way)

pub some_one : (a b : ℕ) (o : Option ℕ) → o ≡ Some a → o ≡ Some b → a ≡ b
some_one a b o e f = ap (λ (x : Option ℕ). unwrap_or x 0) (sym e ∙ f)

-- no other way is better, by the place of the entry that it passes
better : (t : Table) (k : ℕ) (e d d' : Scored) (ds gs : List Scored) (come : List (Option ℕ)) (i cost : ℕ) → Chooses t k e d ds come i cost → IsWay t (e ∷ d' ∷ gs) → length gs ≡ k → Passed t k e d' gs come cost → way_cost t.economy (e ∷ d' ∷ gs) ≡ cost → lists_cmp (configs (e ∷ d ∷ ds)) (configs (e ∷ d' ∷ gs)) ≢ Greater
better t k e d d' ds gs come i cost c w long p same =
    let s = step_cost t.economy (k + 1 + 1) d'.config e.config e.row in
    let whole : way_cost t.economy (d' ∷ gs) + s ≡ cost = sym (one_more t.economy k e d' gs long) ∙ same in
    let leads : LeadsTo t.economy (k + 1 + 1) (entry_at (layer_at t k) p.place) (get_or come p.place None) e cost = record {
      before = p.before;
      has = p.has;
      grows = rw p.is w.2;
      costs = ap (λ (x : Scored). p.before + step_cost t.economy (k + 1 + 1) x.config e.config e.row) p.is ∙ equal (way_cost t.economy (d' ∷ gs)) p.before s cost whole p.cheap p.least;
    } in
    rw (same_first e.config (configs (d ∷ ds)) (configs (d' ∷ gs))) (⊎_elim
    (λ below. absurd (c.first p.place below leads))
    (λ above. ⊎_elim
    (λ at. here (sym (sym p.is ∙ (ap (λ j. entry_at (layer_at t k) j) at ∙ c.is))) (exact (way_cost t.economy (d' ∷ gs)) p.before s cost whole p.cheap p.least) at)
    (λ later. less_first d.config d'.config (configs ds) (configs gs) (rises_at (layer_at t k) c.rises i p.place d d' (omega (arith, above, later)) p.within c.is p.is))
    (cases_eq p.place i))
    (cases_lt p.place i))
  where
    equal : (a b s v : ℕ) → a + s ≡ v → b ≤ a → v ≤ b + s → b + s ≡ v
    equal a b s v f g h = omega (arith, f, g, h)

    exact : (a b s v : ℕ) → a + s ≡ v → b ≤ a → v ≤ b + s → a ≡ b
    exact a b s v f g h = omega (arith, f, g, h)

    here : d ≡ d' → way_cost t.economy (d' ∷ gs) ≡ p.before → p.place ≡ i → lists_cmp (configs (d ∷ ds)) (configs (d' ∷ gs)) ≢ Greater
    here one cost' at =
        let way = way_cost_some t k d (get_or come i None) c.leads.before (subst (λ (x : Scored). IsWayCost t k x (get_or come i None)) c.is (c.ways i c.within)) c.leads.has in
        let mine : way_cost t.economy (d ∷ ds) ≡ c.leads.before = best_cost t k d ds c.leads.before c.best c.long way in
        let both : p.before ≡ c.leads.before = some_one p.before c.leads.before (get_or come i None) (ap (λ j. get_or come j None) (sym at) ∙ p.has) c.leads.has in
        let there : IsWay t (d ∷ gs) = subst (λ (x : Scored). IsWay t (x ∷ gs)) (sym one) w.3 in
        let compare : NoWorse t.economy (d ∷ ds) (d ∷ gs) = worse_no t.economy (d ∷ ds) (d ∷ gs) (c.best.best gs there (long ∙ sym c.long)) in
        let costs : way_cost t.economy (d ∷ gs) ≡ p.before = subst (λ (x : Scored). way_cost t.economy (x ∷ gs) ≡ p.before) (sym one) cost' in
        subst (λ (x : Scored). lists_cmp (configs (d ∷ ds)) (configs (x ∷ gs)) ≢ Greater) one
        (⊎_elim (λ less. absurd (apart _ _ p.before c.leads.before less mine costs both)) (λ tie. tie.1) compare)
      where
        apart : (x y u v : ℕ) → x < y → x ≡ v → y ≡ u → u ≡ v → ⊥
        apart x y u v f g h e = omega (arith, f, g, h, e)

pub best_more : (t : Table) (k : ℕ) (e d : Scored) (ds : List Scored) (come : List (Option ℕ)) (i cost : ℕ) → Chooses t k e d ds come i cost → IsBestTo t e (d ∷ ds)
best_more t k e d ds come i cost c = record { way = chosen_way t k e d ds come i cost c; best = λ other w long. no_worse t.economy (e ∷ d ∷ ds) (e ∷ other) (compare other w (long ∙ ap suc c.long)) }
  where
    compare : (other : List Scored) → IsWay t (e ∷ other) → length other ≡ suc k → NoWorse t.economy (e ∷ d ∷ ds) (e ∷ other)
    compare [] w long = absurd (omega (arith, long))
    compare (d' ∷ gs) w long =
        let long' : length gs ≡ k = omega (arith, long) in
        let mine : way_cost t.economy (e ∷ d ∷ ds) ≡ cost = chosen_cost t k e d ds come i cost c in
        let low : cost ≤ way_cost t.economy (e ∷ d' ∷ gs) = c.least.least (d' ∷ gs) w (omega (arith, long)) in
        ⊎_elim
        (λ less. inl less)
        (λ no_less.
        let same : way_cost t.economy (e ∷ d' ∷ gs) ≡ cost = tie _ _ cost mine low no_less in
        inr (mine ∙ sym same, better t k e d d' ds gs come i cost c w long' (passed t k e d' gs come cost c.ways c.least w long') same))
        (cases_lt (way_cost t.economy (e ∷ d ∷ ds)) (way_cost t.economy (e ∷ d' ∷ gs)))
      where
        tie : (x y v : ℕ) → x ≡ v → v ≤ y → y ≤ x → y ≡ v
        tie x y v f g h = omega (arith, f, g, h)

-- the chosen plan, by the place of its last entry
pub record Finishes (t : Table) (k : ℕ) (come : List (Option ℕ)) (place total : ℕ) (shown : List (List ℕ)) : Type 0 where
  pub last : k + 1 ≡ length t.layers
  pub ways : (j : ℕ) → j < length (layer_at t k) → IsWayCost t k (entry_at (layer_at t k) j) (get_or come j None)
  pub rises : Rises (layer_at t k)
  pub long : length come ≡ length (layer_at t k)
  pub least : IsLeastPlace come (length come) place total
  pub best : TellsBest t k (entry_at (layer_at t k) place) shown

finish_cost : (t : Table) (k : ℕ) (come : List (Option ℕ)) (place total : ℕ) (shown : List (List ℕ)) (f : Finishes t k come place total shown) → way_cost t.economy (entry_at (layer_at t k) place ∷ f.best.before) ≡ total
finish_cost t k come place total shown f =
    let e = entry_at (layer_at t k) place in
    best_cost t k e f.best.before total f.best.best f.best.long (way_cost_some t k e (get_or come place None) total (f.ways place (omega (arith, f.least.within, f.long))) f.least.has)

finish_best : (t : Table) (k : ℕ) (come : List (Option ℕ)) (place total : ℕ) (shown : List (List ℕ)) (f : Finishes t k come place total shown) (way : List Scored) → IsWay t way → length way ≡ length t.layers → NoWorse t.economy (entry_at (layer_at t k) place ∷ f.best.before) way
finish_best t k come place total shown f [] w long = absurd (omega (arith, long, f.last))
finish_best t k come place total shown f (e' ∷ gs) w long =
    let e = entry_at (layer_at t k) place in
    let long' : length gs ≡ k = omega (arith, long, f.last) in
    let p = place_of (layer_at t k) e' (subst (λ n. Contains (layer_at t n) e') long' w.1) in
    let n = way_number t k e' (get_or come p.place None) gs (subst (λ (x : Scored). IsWayCost t k x (get_or come p.place None)) p.is (f.ways p.place p.within)) w long' in
    let mine = finish_cost t k come place total shown f in
    let low : total ≤ n.cost = f.least.least p.place n.cost (omega (arith, p.within, f.long)) n.is in
    ⊎_elim
    (λ less. inl less)
    (λ no_less.
    let same : way_cost t.economy (e' ∷ gs) ≡ total = tie _ _ n.cost total mine low n.cheap no_less in
    let exact : n.cost ≡ total = tight _ _ n.cost total mine low n.cheap no_less in
    let after : place ≤ p.place = f.least.first p.place (omega (arith, p.within, f.long)) (n.is ∙ ap (λ (x : ℕ). Some x) exact) in
    inr (
      mine ∙ sym same,
      ⊎_elim
          (λ at.
          let one : e ≡ e' = ap (λ j. entry_at (layer_at t k) j) (sym at) ∙ p.is in
          let there : IsWay t (e ∷ gs) = subst (λ (x : Scored). IsWay t (x ∷ gs)) (sym one) w in
          let compare : NoWorse t.economy (e ∷ f.best.before) (e ∷ gs) = worse_no t.economy (e ∷ f.best.before) (e ∷ gs) (f.best.best.best gs there (long' ∙ sym f.best.long)) in
          let costs : way_cost t.economy (e ∷ gs) ≡ total = subst (λ (x : Scored). way_cost t.economy (x ∷ gs) ≡ total) (sym one) same in
          subst (λ (x : Scored). lists_cmp (configs (e ∷ f.best.before)) (configs (x ∷ gs)) ≢ Greater) one (⊎_elim (λ below. absurd (apart _ _ total below mine costs)) (λ tied. tied.1) compare))
          (λ later. less_first e.config e'.config (configs f.best.before) (configs gs) (rises_at (layer_at t k) f.rises place p.place e e' (omega (arith, after, later)) p.within refl p.is))
          (cases_eq p.place place),
    ))
    (cases_lt (way_cost t.economy (e ∷ f.best.before)) (way_cost t.economy (e' ∷ gs)))
  where
    tie : (x y n v : ℕ) → x ≡ v → v ≤ n → n ≤ y → y ≤ x → y ≡ v
    tie x y n v f g h e = omega (arith, f, g, h, e)

    tight : (x y n v : ℕ) → x ≡ v → v ≤ n → n ≤ y → y ≤ x → n ≡ v
    tight x y n v f g h e = omega (arith, f, g, h, e)

    apart : (x y v : ℕ) → x < y → x ≡ v → y ≡ v → ⊥
    apart x y v f g h = omega (arith, f, g, h)

pub finished : (t : Table) (k : ℕ) (come : List (Option ℕ)) (place total : ℕ) (shown : List (List ℕ)) → Finishes t k come place total shown → IsPlanOf t shown total
finished t k come place total shown f =
    let e = entry_at (layer_at t k) place in
    let way = e ∷ f.best.before in
    record {
      plan = reverse way;
      is_chosen = record {
        admissible = way_plan t way f.best.best.way;
        whole = omega (arith, length-reverse way, f.best.long, f.last);
        best = λ other a long. subst (λ (xs : List Scored). IsNoWorse t.economy (reverse way) xs) (reverse-reverse other)
            (no_worse t.economy way (reverse other) (finish_best t k come place total shown f (reverse other) (plan_way t other a) (length-reverse other ∙ long)));
      };
      shown = f.best.told;
      costs = sym (cost_same t.economy way ∙ finish_cost t k come place total shown f);
    }

-- the costs of ways are the costs-to-come
pub plan_cost_of : (t : Table) (k : ℕ) (e : Scored) (come : Option ℕ) → IsWayCost t k e come → IsCostToCome t (k + 1) e come
plan_cost_of t k e None h = λ plan p. let w = way_of t k e plan p in h w.before w.way w.long
plan_cost_of t k e (Some cost) h = record {
  plan = reverse (e ∷ h.before);
  to = subst (λ n. IsPlanTo t n e (reverse (e ∷ h.before))) (ap (λ n. n + 1) h.long) (way_to t e h.before h.way);
  costs = cost_same t.economy (e ∷ h.before) ∙ h.costs;
  least = λ other p.
      let w = way_of t k e other p in
      let same : plan_cost t.economy other ≡ way_cost t.economy (e ∷ w.before) = ap (λ (xs : List Scored). plan_cost t.economy xs) w.same ∙ cost_same t.economy (e ∷ w.before) in
      rw same (h.least w.before w.way w.long);
}

pub come_is : (t : Table) (come : List (List (Option ℕ))) → AreWayCosts t (length t.layers) come → AreCostsToCome t come
come_is t come h = record {
  years = h.years;
  entries = h.entries;
  each = λ k i b d. plan_cost_of t k (entry_at (layer_at t k) i) (come_at come k i) (h.each k i b d);
}

-- a year that no cost-to-come reaches
number_within : (come : List (Option ℕ)) (place cost : ℕ) → get_or come place None ≡ Some cost → place < length come
number_within come place cost h = ⊎_elim (λ below. below) (λ above. absurd (none-some cost (sym (get_or_past come place None above) ∙ h))) (cases_lt place (length come))

unreached_none : (t : Table) (come : List (List (Option ℕ))) (year : ℕ) → AreWayCosts t (length t.layers) come → IsUnreached come year → (way : List Scored) → IsWay t way → length way ≡ year + 1 → ⊥
unreached_none t come year h u [] w long = omega (arith, long)
unreached_none t come year h u (e ∷ before) w long =
    let long' : length before ≡ year = omega (arith, long) in
    let within : year < length t.layers = omega (arith, u.within, h.years) in
    let p = place_of (layer_at t year) e (subst (λ n. Contains (layer_at t n) e) long' w.1) in
    let n = way_number t year e (come_at come year p.place) before (subst (λ (x : Scored). IsWayCost t year x (come_at come year p.place)) p.is (h.each year p.place within p.within)) w long' in
    u.none (record { place = p.place; cost = n.cost; has = n.is })

reached_plan : (t : Table) (come : List (List (Option ℕ))) (k : ℕ) → AreWayCosts t (length t.layers) come → k < length t.layers → HasNumber (get_or come k []) → HasPlan t (k + 1)
reached_plan t come k h b n =
    let within : n.place < length (layer_at t k) = omega (arith, number_within (get_or come k []) n.place n.cost n.has, h.entries k b) in
    let e = entry_at (layer_at t k) n.place in
    let w = way_cost_some t k e (come_at come k n.place) n.cost (h.each k n.place b within) n.has in
    record { plan = reverse (e ∷ w.before); admissible = way_plan t (e ∷ w.before) w.way; long = omega (arith, length-reverse (e ∷ w.before), w.long) }

pub infeasible_is : (t : Table) (come : List (List (Option ℕ))) (year : ℕ) → AreWayCosts t (length t.layers) come → IsUnreached come year → IsInfeasible t (year + 1)
infeasible_is t come year h u = record {
  within = (omega arith, omega (arith, u.within, h.years));
  none = λ p. unreached_none t come year h u (reverse p.plan) (plan_way t p.plan p.admissible) (length-reverse p.plan ∙ p.long);
  first = λ y b. reached y b;
}
  where
    reached : (y : ℕ) → y < year + 1 → HasPlan t y
    reached zero b = record { plan = []; admissible = admissible_none t; long = refl }
    reached (suc y) b =
        let next : y + 1 ≡ suc y = omega arith in
        subst (λ n. HasPlan t n) next (reached_plan t come y h (omega (arith, b, u.within, h.years)) (u.first y (omega (arith, b))))

-- what is read on the way back
pub record Reads (t : Table) (come : List (List (Option ℕ))) (y p : ℕ) (costs : CostData) (e : Scored) (entries : List Scored) (row : List (Option ℕ)) (cost : ℕ) : Type 0 where
  pub some_year : 1 ≤ y
  pub year : y < length t.layers
  pub place : p < length (layer_at t y)
  pub economy : costs ≡ t.economy
  pub layer : entries ≡ layer_at t (y - 1)
  pub before : row ≡ get_or come (y - 1) []
  pub entry : e ≡ entry_at (layer_at t y) p
  pub has : come_at come y p ≡ Some cost

pub lead_there : (t : Table) (come : List (List (Option ℕ))) (y p : ℕ) (economy : CostData) (e : Scored) (layer : List Scored) (row : List (Option ℕ)) (cost : ℕ) → AreWayCosts t (length t.layers) come → Reads t come y p economy e layer row cost → HasLead economy (y + 1) layer row e cost
lead_there t come y p economy e layer row cost h r =
    let k = y - 1 in
    let next : k + 1 ≡ y = omega (arith, r.some_year) in
    let e' = entry_at (layer_at t y) p in
    let least : IsLeastWay t (k + 1) e' cost = subst (λ n. IsLeastWay t n e' cost) (sym next) (way_cost_some t y e' (come_at come y p) cost (h.each y p r.year r.place) r.has) in
    let lead : HasLead t.economy (k + 1 + 1) (layer_at t k) (get_or come k []) e' cost = lead_of t k e' (get_or come k []) cost (λ j b. h.each k j (omega (arith, next, r.year)) b) least in
    rw r.economy (rw r.layer (rw r.before (rw r.entry (subst (λ n. HasLead t.economy (n + 1) (layer_at t k) (get_or come k []) e' cost) next lead))))

pub before_there : (t : Table) (come : List (List (Option ℕ))) (y p : ℕ) (economy : CostData) (e : Scored) (layer : List Scored) (row : List (Option ℕ)) (cost before : ℕ) → Reads t come y p economy e layer row cost → before < length layer →
    LeadsTo economy (y + 1) (entry_at layer before) (get_or row before None) e cost → ((i : ℕ) → i < before → LeadsTo economy (y + 1) (entry_at layer i) (get_or row i None) e cost → ⊥) → IsBefore t come y p before
before_there t come y p economy e layer row cost before r b l f =
    let to : (i : ℕ) → LeadsTo economy (y + 1) (entry_at layer i) (get_or row i None) e cost ≡ LeadsTo t.economy (y + 1) (entry_at (layer_at t (y - 1)) i) (come_at come (y - 1) i) (entry_at (layer_at t y) p) cost =
    λ i j. LeadsTo (r.economy j) (y + 1) (entry_at (r.layer j) i) (get_or (r.before j) i None) (r.entry j) cost in
    record {
      cost = cost;
      has = r.has;
      within = omega (arith, b, ap length r.layer);
      leads = subst (λ (X : Type 0). X) (to before) l;
      first = λ i h g. f i h (subst (λ (X : Type 0). X) (sym (to i)) g);
    }

-- and one year more
pub told_more : (t : Table) (come : List (List (Option ℕ))) (y p before : ℕ) (shown shown' : List (List ℕ)) → IsTable t → AreWayCosts t (length t.layers) come → 1 ≤ y → y < length t.layers → p < length (layer_at t y) → IsBefore t come y p before →
    TellsBest t (y - 1) (entry_at (layer_at t (y - 1)) before) shown → shown' ≡ shown ++ (entry_at (layer_at t y) p).config ∷ [] → TellsBest t y (entry_at (layer_at t y) p) shown'
told_more t come y p before shown shown' v h s b w i told e =
    let k = y - 1 in
    let next : k + 1 ≡ y = omega (arith, s) in
    let e' = entry_at (layer_at t y) p in
    let d = entry_at (layer_at t k) before in
    let year : y + 1 ≡ k + 1 + 1 = omega (arith, next) in
    let chooses : Chooses t k e' d told.before (get_or come k []) before i.cost = record {
      ways = λ j l. h.each k j (omega (arith, next, b)) l;
      rises = v.rises k [] (omega (arith, next, b));
      within = i.within;
      is = refl;
      leads = subst (λ n. LeadsTo t.economy n d (come_at come k before) e' i.cost) year i.leads;
      first = λ j l g. i.first j l (subst (λ n. LeadsTo t.economy n (entry_at (layer_at t k) j) (come_at come k j) e' i.cost) (sym year) g);
      best = told.best;
      long = told.long;
      least = subst (λ n. IsLeastWay t n e' i.cost) (sym next) (way_cost_some t y e' (come_at come y p) i.cost (h.each y p b w) i.has);
    } in
    record {
      before = d ∷ told.before;
      best = best_more t k e' d told.before (get_or come k []) before i.cost chooses;
      long = omega (arith, told.long, next);
      told = e ∙ (ap (λ (xs : List (List ℕ)). xs ++ e'.config ∷ []) told.told ∙ (sym (configs_push (reverse (d ∷ told.before)) e') ∙ sym (ap configs (reverse_more e' (d ∷ told.before)))));
    }

some_of : (o : Option ℕ) → (o ≡ None → ⊥) → (cost : ℕ) × (o ≡ Some cost)
some_of None h = absurd (h refl)
some_of (Some cost) h = (cost, refl)

pub told_first : (t : Table) (come : List (List (Option ℕ))) (y p : ℕ) (shown : List (List ℕ)) → AreWayCosts t (length t.layers) come → y ≡ 0 → y < length t.layers → p < length (layer_at t y) → (come_at come y p ≡ None → ⊥) → shown ≡ (entry_at (layer_at t y) p).config ∷ [] → TellsBest t y (entry_at (layer_at t y) p) shown
told_first t come y p shown h z b w s e =
    let e' = entry_at (layer_at t y) p in
    let has = some_of (come_at come y p) s in
    let cost : IsWayCost t 0 e' (come_at come y p) = subst (λ n. IsWayCost t n e' (come_at come y p)) z (h.each y p b w) in
    subst (λ n. TellsBest t n e' shown) (sym z) (tells_first t e' shown (come_at come y p) has.0 cost has.1 e)

-- the entry that the best plan comes from has a cost-to-come
pub before_some : (t : Table) (come : List (List (Option ℕ))) (y p before : ℕ) → IsBefore t come y p before → come_at come (y - 1) before ≡ None → ⊥
before_some t come y p before i e = none-some i.leads.before (sym e ∙ i.leads.has)
