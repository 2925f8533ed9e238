-- From what is reached before a year to the costs-to-come of its entries, and to what is reached after it.
use Rattle.std.proofs.Common.{◌≡◌, ℕ, ◌+◌, ◌*◌, ◌^◌, ◌<◌, ◌≤◌, List, [], ◌∷◌, ◌++◌, length, get_or, min, Contains, Option, Some, None, sym, ap, ◌∙◌, arith, refl, subst, ⊎_elim}
use Rattle.std.proofs.Math.ListN.{get_or-append}
use Rattle.std.proofs.Math.Seq.{get_or-append_seam}
use Rattle.std.proofs.lemmas.Bool.{cases_eq, cases_lt}
use Rattle.std.proofs.lemmas.List.{get_or_default, get_or_past, get_or_push, length-append}
use Rattle.std.proofs.lemmas.Option.{none-some}
use Rattle.std.specs.Option.{unwrap_or}
use Rattle.plant_data.specs.Configs.{IsAtMost}
use Rattle.cost_terms.specs.Cost.{nothing_built, step_cost}
use Rattle.cost_terms.specs.CostData.{Fits}
use Rattle.cost_terms.specs.Table.{IsEntry, IsTable, Table}
use Rattle.cost_terms.specs.declared.entries.Scored.{Scored}
use Rattle.cost_terms.specs.declared.prices.CostData.{CostData}
use Rattle.plan_program.specs.Plans.{entry_at, layer_at, no_entry}
use Rattle.plan_program.specs.Steps.{AreNumbered, AreReached, IsLeastFrom, IsMet, AreWayCosts, IsRaised, IsWithWay, built, lesser_of, raised, reached_at, running}
use Rattle.plan_program.specs.Ways.{IsLeastWay, IsWay, IsWayCost, last_config, way_cost}
use Rattle.plan_program.specs.declared.come.Reached.{Reached}

pub least_skip : (c : CostData) (year : ℕ) (rs : List Reached) (n : ℕ) (config : List ℕ) (v : Option ℕ) → IsLeastFrom c year rs n config v → (IsAtMost (reached_at rs n).config config → ⊥) → IsLeastFrom c year rs (n + 1) config v
least_skip c year rs n config None h not = λ i b g. ⊎_elim (λ e. not (subst (λ k. IsAtMost (reached_at rs k).config config) e g)) (λ other. h i (omega (arith, b, other)) g) (cases_eq i n)
least_skip c year rs n config (Some v) h not = (
  record { place = h.0.place; within = omega (arith, h.0.within); grows = h.0.grows; costs = h.0.costs },
  λ i b g. ⊎_elim (λ e. absurd (not (subst (λ k. IsAtMost (reached_at rs k).config config) e g))) (λ other. h.1 i (omega (arith, b, other)) g) (cases_eq i n),
)

abbrev through : CostData → ℕ → List Reached → ℕ → List ℕ → ℕ
through c year rs i config = (reached_at rs i).cost + built c year (reached_at rs i).config config

least_here : (c : CostData) (year : ℕ) (rs : List Reached) (n : ℕ) (config : List ℕ) (v w : ℕ) → IsLeastFrom c year rs n config (Some v) → IsAtMost (reached_at rs n).config config → w ≡ through c year rs n config → IsLeastFrom c year rs (n + 1) config (Some (min v w))
least_here c year rs n config v w h g e =
    ⊎_elim
    (λ (below : v < w).
    let m : min v w ≡ v = omega (arith, below) in
    subst (λ x. IsLeastFrom c year rs (n + 1) config (Some x)) (sym m) (
      record { place = h.0.place; within = omega (arith, h.0.within); grows = h.0.grows; costs = h.0.costs },
      λ i b k. ⊎_elim (λ same. rw same (omega (arith, below, e))) (λ other. h.1 i (omega (arith, b, other)) k) (cases_eq i n),
    ))
    (λ (above : w ≤ v).
    let m : min v w ≡ w = omega (arith, above) in
    subst (λ x. IsLeastFrom c year rs (n + 1) config (Some x)) (sym m) (
      record { place = n; within = omega arith; grows = g; costs = sym e },
      λ i b k. ⊎_elim (λ same. rw same (omega (arith, e))) (λ other. omega (arith, above, h.1 i (omega (arith, b, other)) k)) (cases_eq i n),
    ))
    (cases_lt v w)

pub least_more : (c : CostData) (year : ℕ) (rs : List Reached) (n : ℕ) (config : List ℕ) (v : Option ℕ) (w : ℕ) → IsLeastFrom c year rs n config v → IsAtMost (reached_at rs n).config config → w ≡ through c year rs n config → IsLeastFrom c year rs (n + 1) config (Some (lesser_of v w))
least_more c year rs n config None w h g e = (
  record { place = n; within = omega arith; grows = g; costs = sym e },
  λ i b k. ⊎_elim (λ same. rw same (omega (arith, e))) (λ other. absurd (h i (omega (arith, b, other)) k)) (cases_eq i n),
)
least_more c year rs n config (Some v) w h g e = least_here c year rs n config v w h g e

-- the loop over a year's entries
pub numbered_none : (layer : List Scored) (come : List (Option ℕ)) → AreNumbered layer come 0 []
numbered_none layer come = record { stand = λ j h. absurd (omega (arith, h)); all = λ i cost h e. absurd (omega (arith, h)) }

pub none_some : (v : ℕ) (o : Option ℕ) → o ≡ None → o ≡ Some v → ⊥
none_some v o e f = none-some v (sym e ∙ f)

pub numbered_skip : (layer : List Scored) (come : List (Option ℕ)) (n : ℕ) (rs : List Reached) → AreNumbered layer come n rs → get_or come n None ≡ None → AreNumbered layer come (n + 1) rs
numbered_skip layer come n rs h e = record {
  stand = λ j b. let s = h.stand j b in record { place = s.place; within = omega (arith, s.within); same = s.same; costs = s.costs };
  all = λ i cost b f. ⊎_elim (λ same. absurd (none_some cost (get_or come n None) e (ap (λ k. get_or come k None) (sym same) ∙ f))) (λ other. h.all i cost (omega (arith, b, other)) f) (cases_eq i n);
}

reached_front : (rs : List Reached) (r : Reached) (j : ℕ) → j < length rs → reached_at (rs ++ r ∷ []) j ≡ reached_at rs j
reached_front rs r j h = get_or-append rs (r ∷ []) (record { config = []; cost = 0 }) j h

reached_end : (rs : List Reached) (r : Reached) → reached_at (rs ++ r ∷ []) (length rs) ≡ r
reached_end rs r = get_or-append_seam rs r [] (record { config = []; cost = 0 })

pub numbered_more : (layer : List Scored) (come : List (Option ℕ)) (n cost : ℕ) (rs : List Reached) → AreNumbered layer come n rs → get_or come n None ≡ Some cost → AreNumbered layer come (n + 1) (rs ++ record { config = (entry_at layer n).config; cost = cost } ∷ [])
numbered_more layer come n cost rs h e =
    let r : Reached = record { config = (entry_at layer n).config; cost = cost } in
    let long = length-append rs (r ∷ []) in
    record {
      stand = λ j b. ⊎_elim
          (λ same.
          let at : reached_at (rs ++ r ∷ []) j ≡ r = ap (λ k. reached_at (rs ++ r ∷ []) k) same ∙ reached_end rs r in
          rw at (record { place = n; within = omega arith; same = refl; costs = e }))
          (λ other.
          let b' : j < length rs = omega (arith, b, long, other) in
          let s = h.stand j b' in
          rw (reached_front rs r j b') (record { place = s.place; within = omega (arith, s.within); same = s.same; costs = s.costs }))
          (cases_eq j (length rs));
      all = λ i v b f. ⊎_elim
          (λ same.
          let cheap : Some cost ≡ Some v = sym e ∙ (ap (λ k. get_or come k None) (sym same) ∙ f) in
          record {
            place = length rs;
            within = omega (arith, long);
            same = ap (λ (x : Reached). x.config) (reached_end rs r) ∙ ap (λ k. (entry_at layer k).config) (sym same);
            costs = ap (λ (x : Reached). x.cost) (reached_end rs r) ∙ ap (λ (o : Option ℕ). unwrap_or o 0) cheap;
          })
          (λ other.
          let a = h.all i v (omega (arith, b, other)) f in
          record {
            place = a.place;
            within = omega (arith, a.within, long);
            same = ap (λ (x : Reached). x.config) (reached_front rs r a.place a.within) ∙ a.same;
            costs = ap (λ (x : Reached). x.cost) (reached_front rs r a.place a.within) ∙ a.costs;
          })
          (cases_eq i n);
    }

-- before year 1 nothing is built, and that costs nothing
pub reached_start : (t : Table) (rs : List Reached) → rs ≡ record { config = nothing_built t.economy; cost = 0 } ∷ [] → Fits t.economy (nothing_built t.economy) → AreReached t 0 rs
reached_start t rs e f = subst (λ (xs : List Reached). AreReached t 0 xs) (sym e) (record {
  has = λ i b. let z : i ≡ 0 = omega (arith, b) in rw z (record { way = []; is_way = tt; long = refl; last = refl; costs = refl });
  all = λ way w long. start way w long;
  fit = λ i b. let z : i ≡ 0 = omega (arith, b) in rw z f;
  small = λ i b. let z : i ≡ 0 = omega (arith, b) in rw z (omega arith);
})
  where
    start : (way : List Scored) → IsWay t way → length way ≡ 0 → IsMet t (record { config = nothing_built t.economy; cost = 0 } ∷ []) way
    start [] w long = record { place = 0; within = omega arith; same = refl; cheap = omega arith }
    start (d ∷ way) w long = absurd (omega (arith, long))

-- a year's cost in its two parts
pub step_parts : (c : CostData) (year : ℕ) (before after : List ℕ) (e : Scored) → step_cost c year before after e.row ≡ built c year before after + running c year after e.row
step_parts c year before after e = omega arith

whole_sum : (way step step' reached b ran v : ℕ) → step ≡ step' → way ≡ reached → reached + b ≡ v → step' ≡ b + ran → way + step ≡ v + ran
whole_sum way step step' reached b ran v e f g h = omega (arith, e, f, g, h)

least_sum : (v ran reached b step step' way : ℕ) → step ≡ step' → step' ≡ b + ran → reached ≤ way → v ≤ reached + b → v + ran ≤ way + step
least_sum v ran reached b step step' way e f g h = omega (arith, e, f, g, h)

-- an entry comes from none of what is reached: no way leads to it
pub raised_none : (t : Table) (k : ℕ) (rs : List Reached) (e : Scored) → AreReached t k rs → IsLeastFrom t.economy (k + 1) rs (length rs) e.config None → IsWayCost t k e None
raised_none t k rs e r l before w long =
    let m = r.all before w.3 long in
    l m.place m.within (rw m.same w.2)

pub raised_some : (t : Table) (k : ℕ) (rs : List Reached) (e : Scored) (v : ℕ) → k < length t.layers → Contains (layer_at t k) e → AreReached t k rs → IsLeastFrom t.economy (k + 1) rs (length rs) e.config (Some v) → IsLeastWay t k e (v + running t.economy (k + 1) e.config e.row)
raised_some t k rs e v h in_layer r l =
    let c = t.economy in
    let from = l.0 in
    let way = r.has from.place from.within in
    let ran = running c (k + 1) e.config e.row in
    let year : length way.way + 1 ≡ k + 1 = omega (arith, way.long) in
    let step : step_cost c (length way.way + 1) (last_config c way.way) e.config e.row ≡ step_cost c (k + 1) (reached_at rs from.place).config e.config e.row =
    λ i. step_cost c (year i) (way.last i) e.config e.row in
    record {
      before = way.way;
      way = (rw way.long h, rw way.long in_layer, rw way.last from.grows, way.is_way);
      long = way.long;
      costs = whole_sum (way_cost c way.way) _ _ (reached_at rs from.place).cost (built c (k + 1) (reached_at rs from.place).config e.config) ran v step way.costs from.costs (step_parts c (k + 1) (reached_at rs from.place).config e.config e);
      least = λ other w long.
          let m = r.all other w.3 long in
          let grows : IsAtMost (reached_at rs m.place).config e.config = rw m.same w.2 in
          let year' : length other + 1 ≡ k + 1 = omega (arith, long) in
          let last : last_config c other ≡ (reached_at rs m.place).config = sym m.same in
          let step' : step_cost c (length other + 1) (last_config c other) e.config e.row ≡ step_cost c (k + 1) (reached_at rs m.place).config e.config e.row =
          λ i. step_cost c (year' i) (last i) e.config e.row in
          least_sum v ran (reached_at rs m.place).cost (built c (k + 1) (reached_at rs m.place).config e.config) _ _ (way_cost c other) step' (step_parts c (k + 1) (reached_at rs m.place).config e.config e) m.cheap (l.1 m.place m.within grows);
    }

raised_cases : (t : Table) (k : ℕ) (rs : List Reached) (e : Scored) (v come : Option ℕ) → k < length t.layers → Contains (layer_at t k) e → AreReached t k rs → IsLeastFrom t.economy (k + 1) rs (length rs) e.config v → come ≡ raised v (running t.economy (k + 1) e.config e.row) → IsWayCost t k e come
raised_cases t k rs e None come h b r l a = subst (λ (o : Option ℕ). IsWayCost t k e o) (sym a) (raised_none t k rs e r l)
raised_cases t k rs e (Some v) come h b r l a = subst (λ (o : Option ℕ). IsWayCost t k e o) (sym a) (raised_some t k rs e v h b r l)

pub raised_cost : (t : Table) (k : ℕ) (rs : List Reached) (e : Scored) (come : Option ℕ) → k < length t.layers → Contains (layer_at t k) e → AreReached t k rs → IsRaised t.economy (k + 1) rs e come → IsWayCost t k e come
raised_cost t k rs e come h b r x = raised_cases t k rs e x.least come h b r x.is_least x.adds

-- a way's cost at a known cost-to-come
pub way_cost_some : (t : Table) (k : ℕ) (e : Scored) (come : Option ℕ) (v : ℕ) → IsWayCost t k e come → come ≡ Some v → IsLeastWay t k e v
way_cost_some t k e come v h e' = subst (λ (o : Option ℕ). IsWayCost t k e o) e' h

pub record Numbered (t : Table) (k : ℕ) (e : Scored) (come : Option ℕ) (bound : ℕ) : Type 0 where
  pub cost : ℕ
  pub is : come ≡ Some cost
  pub cheap : cost ≤ bound

-- where a way leads to an entry, it has a cost-to-come
pub way_number : (t : Table) (k : ℕ) (e : Scored) (come : Option ℕ) (before : List Scored) → IsWayCost t k e come → IsWay t (e ∷ before) → length before ≡ k → Numbered t k e come (way_cost t.economy (e ∷ before))
way_number t k e None before h w long = absurd (h before w long)
way_number t k e (Some v) before h w long = record { cost = v; is = refl; cheap = h.least before w long }

pub record Place (entries : List Scored) (e : Scored) : Type 0 where
  pub place : ℕ
  pub within : place < length entries
  pub is : entry_at entries place ≡ e

pub place_of : (entries : List Scored) (e : Scored) → Contains entries e → Place entries e
place_of entries e (k, b, is) = record { place = k; within = b; is = get_or_default entries k no_entry e b ∙ is }

-- what is reached after the year
pub reached_next : (t : Table) (k : ℕ) (come : List (Option ℕ)) (rs : List Reached) → k < length t.layers → ((i : ℕ) → i < length (layer_at t k) → IsEntry t.economy (entry_at (layer_at t k) i)) →
    ((i : ℕ) → i < length (layer_at t k) → IsWayCost t k (entry_at (layer_at t k) i) (get_or come i None)) → ((i cost : ℕ) → get_or come i None ≡ Some cost → cost ≤ (k + 1) * (2 * 10 ^ 16)) →
    AreNumbered (layer_at t k) come (length (layer_at t k)) rs → AreReached t (k + 1) rs
reached_next t k come rs h entries ways small n = record {
  has = λ j b.
      let s = n.stand j b in
      let e = entry_at (layer_at t k) s.place in
      let w = way_cost_some t k e (get_or come s.place None) (reached_at rs j).cost (ways s.place s.within) s.costs in
      record { way = e ∷ w.before; is_way = w.way; long = omega (arith, w.long); last = s.same; costs = w.costs };
  all = λ way w long. met way w long;
  fit = λ j b. let s = n.stand j b in subst (λ (config : List ℕ). Fits t.economy config) s.same (entries s.place s.within).fits;
  small = λ j b. let s = n.stand j b in small s.place (reached_at rs j).cost s.costs;
}
  where
    met : (way : List Scored) → IsWay t way → length way ≡ k + 1 → IsMet t rs way
    met [] w long = absurd (omega (arith, long))
    met (e ∷ before) w long =
        let long' : length before ≡ k = omega (arith, long) in
        let p = place_of (layer_at t k) e (subst (λ (n : ℕ). Contains (layer_at t n) e) long' w.1) in
        let number = way_number t k e (get_or come p.place None) before (subst (λ (x : Scored). IsWayCost t k x (get_or come p.place None)) p.is (ways p.place p.within)) w long' in
        let a = n.all p.place number.cost p.within number.is in
        record { place = a.place; within = a.within; same = a.same ∙ ap (λ (x : Scored). x.config) p.is; cheap = omega (arith, a.costs, number.cheap) }

pub with_way : (c : CostData) (year : ℕ) (rs : List Reached) (n : ℕ) (r : Reached) (config : List ℕ) (v w : Option ℕ) → IsLeastFrom c year rs n config v → r ≡ reached_at rs n → IsWithWay c year r config v w → IsLeastFrom c year rs (n + 1) config w
with_way c year rs n r config v w h e k =
    let k' : IsWithWay c year (reached_at rs n) config v w = subst (λ (x : Reached). IsWithWay c year x config v w) e k in
    ⊎_elim
    (λ grows. subst (λ (o : Option ℕ). IsLeastFrom c year rs (n + 1) config o) (sym grows.1) (least_more c year rs n config v (through c year rs n config) h grows.0 refl))
    (λ other. subst (λ (o : Option ℕ). IsLeastFrom c year rs (n + 1) config o) (sym other.1) (least_skip c year rs n config v h other.0))
    k'

numbered_case : (layer : List Scored) (come : List (Option ℕ)) (n : ℕ) (rs new : List Reached) (o : Option ℕ) → o ≡ get_or come n None → AreNumbered layer come n rs →
    ((cost : ℕ) → get_or come n None ≡ Some cost → new ≡ rs ++ record { config = (entry_at layer n).config; cost = cost } ∷ []) → (get_or come n None ≡ None → new ≡ rs) → AreNumbered layer come (n + 1) new
numbered_case layer come n rs new None e h some none = subst (λ (xs : List Reached). AreNumbered layer come (n + 1) xs) (sym (none (sym e))) (numbered_skip layer come n rs h (sym e))
numbered_case layer come n rs new (Some v) e h some none = subst (λ (xs : List Reached). AreNumbered layer come (n + 1) xs) (sym (some v (sym e))) (numbered_more layer come n v rs h (sym e))

pub numbered_step : (layer : List Scored) (come : List (Option ℕ)) (n : ℕ) (rs new : List Reached) → AreNumbered layer come n rs →
    ((cost : ℕ) → get_or come n None ≡ Some cost → new ≡ rs ++ record { config = (entry_at layer n).config; cost = cost } ∷ []) → (get_or come n None ≡ None → new ≡ rs) → AreNumbered layer come (n + 1) new
numbered_step layer come n rs new h some none = numbered_case layer come n rs new (get_or come n None) refl h some none

-- the costs of one more year
pub come_none : (t : Table) → AreWayCosts t 0 []
come_none t = record {
  years = refl;
  entries = λ k h. absurd (omega (arith, h));
  each = λ k i h b. absurd (omega (arith, h));
  small = λ k i cost e. absurd (none-some cost e);
}

year_here : (t : Table) (k j i : ℕ) (row come : List (Option ℕ)) → row ≡ come → j ≡ k → ((x : ℕ) → x < length (layer_at t k) → IsWayCost t k (entry_at (layer_at t k) x) (get_or come x None)) → i < length (layer_at t j) → IsWayCost t j (entry_at (layer_at t j) i) (get_or row i None)
year_here t k j i row come e same ways h =
    subst (λ (xs : List (Option ℕ)). IsWayCost t j (entry_at (layer_at t j) i) (get_or xs i None)) (sym e)
    (subst (λ (x : ℕ). i < length (layer_at t x) → IsWayCost t x (entry_at (layer_at t x) i) (get_or come i None)) (sym same) (ways i) h)

pub come_more : (t : Table) (k : ℕ) (years : List (List (Option ℕ))) (come : List (Option ℕ)) → AreWayCosts t k years → length come ≡ length (layer_at t k) →
    ((i : ℕ) → i < length (layer_at t k) → IsWayCost t k (entry_at (layer_at t k) i) (get_or come i None)) → ((i cost : ℕ) → get_or come i None ≡ Some cost → cost ≤ (k + 1) * (2 * 10 ^ 16)) → k < 30 → AreWayCosts t (k + 1) (years ++ come ∷ [])
come_more t k years come h long ways small few =
    let n = length-append years (come ∷ []) in
    let here : (j : ℕ) → j ≡ k → get_or (years ++ come ∷ []) j [] ≡ come = λ j same. get_or_push years come [] j (h.years ∙ sym same) in
    let front : (j : ℕ) → j < k → get_or (years ++ come ∷ []) j [] ≡ get_or years j [] = λ j b. get_or-append years (come ∷ []) [] j (omega (arith, b, h.years)) in
    record {
      years = omega (arith, n, h.years);
      entries = λ j b. ⊎_elim
          (λ same. ap length (here j same) ∙ (long ∙ ap (λ x. length (layer_at t x)) (sym same)))
          (λ other. ap length (front j (omega (arith, b, other))) ∙ h.entries j (omega (arith, b, other)))
          (cases_eq j k);
      each = λ j i b d. ⊎_elim
          (λ same. year_here t k j i (get_or (years ++ come ∷ []) j []) come (here j same) same ways d)
          (λ other. subst (λ (xs : List (Option ℕ)). IsWayCost t j (entry_at (layer_at t j) i) (get_or xs i None)) (sym (front j (omega (arith, b, other)))) (h.each j i (omega (arith, b, other)) d))
          (cases_eq j k);
      small = λ j i cost e. ⊎_elim
          (λ below. h.small j i cost (sym (ap (λ (xs : List (Option ℕ)). get_or xs i None) (front j below)) ∙ e))
          (λ above. ⊎_elim
          (λ same. omega (arith, few, small i cost (sym (ap (λ (xs : List (Option ℕ)). get_or xs i None) (here j same)) ∙ e)))
          (λ other. absurd (none-some cost (sym (ap (λ (xs : List (Option ℕ)). get_or xs i None) (get_or_past (years ++ come ∷ []) j [] (omega (arith, n, h.years, above, other)))) ∙ e)))
          (cases_eq j k))
          (cases_lt j k);
    }

pub contains_at : (entries : List Scored) (i : ℕ) → i < length entries → Contains entries (entry_at entries i)
contains_at entries i h = (i, h, get_or_default entries i (entry_at entries i) no_entry h)

pub entry_is : (t : Table) → IsTable t → (k i : ℕ) → k < length t.layers → i < length (layer_at t k) → IsEntry t.economy (entry_at (layer_at t k) i)
entry_is t v k i h b = v.entries k [] h i no_entry b

pub record YearDone (t : Table) (k : ℕ) (rs : List Reached) (years : List (List (Option ℕ))) : Type 0 where
  pub reached : AreReached t k rs
  pub come : AreWayCosts t k years

year_step_at : (t : Table) (k : ℕ) (rs rs' : List Reached) (years : List (List (Option ℕ))) (come : List (Option ℕ)) → IsTable t → k < length t.layers → YearDone t k rs years → length come ≡ length (layer_at t k) →
    ((i : ℕ) → i < length (layer_at t k) → IsRaised t.economy (k + 1) rs (entry_at (layer_at t k) i) (get_or come i None)) → ((i cost : ℕ) → get_or come i None ≡ Some cost → cost ≤ (k + 1) * (2 * 10 ^ 16)) →
    AreNumbered (layer_at t k) come (length (layer_at t k)) rs' → YearDone t (k + 1) rs' (years ++ come ∷ [])
year_step_at t k rs rs' years come v h d long raised small n =
    let ways : (i : ℕ) → i < length (layer_at t k) → IsWayCost t k (entry_at (layer_at t k) i) (get_or come i None) =
    λ i b. raised_cost t k rs (entry_at (layer_at t k) i) (get_or come i None) h (contains_at (layer_at t k) i b) d.reached (raised i b) in
    record {
      reached = reached_next t k come rs' h (λ i b. entry_is t v k i h b) ways small n;
      come = come_more t k years come d.come long ways small (omega (arith, h, v.years, v.economy.years));
    }

pub year_step : (t : Table) (k : ℕ) (rs rs' : List Reached) (years : List (List (Option ℕ))) (layer : List Scored) (come : List (Option ℕ)) → layer ≡ layer_at t k → IsTable t → k < length t.layers → YearDone t k rs years → length come ≡ length layer →
    ((i : ℕ) → i < length layer → IsRaised t.economy (k + 1) rs (entry_at layer i) (get_or come i None)) → ((i cost : ℕ) → get_or come i None ≡ Some cost → cost ≤ (k + 1) * (2 * 10 ^ 16)) →
    AreNumbered layer come (length layer) rs' → YearDone t (k + 1) rs' (years ++ come ∷ [])
year_step t k rs rs' years layer come e v h d long raised small n =
    subst (λ (xs : List Scored). length come ≡ length xs → ((i : ℕ) → i < length xs → IsRaised t.economy (k + 1) rs (entry_at xs i) (get_or come i None)) → AreNumbered xs come (length xs) rs' → YearDone t (k + 1) rs' (years ++ come ∷ []))
    (sym e) (λ l r m. year_step_at t k rs rs' years come v h d l r small m) long raised n
