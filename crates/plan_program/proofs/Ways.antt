-- Plans and the same plans from their last year back.
use Rattle.std.proofs.Common.{◌≡◌, ℕ, ◌+◌, ◌-◌, ◌<◌, ◌≤◌, List, [], ◌∷◌, ◌++◌, length, reverse, Contains, sym, ap, ◌∙◌, arith, refl, subst, ⊎_elim}
use Rattle.std.proofs.Math.ListN.{get_or-append}
use Rattle.std.proofs.Math.Seq.{get_or-append_seam}
use Rattle.std.proofs.lemmas.Bool.{cases_eq}
use Rattle.std.proofs.lemmas.Grind.{reverse_onto}
use Rattle.std.proofs.lemmas.List.{get_or-replicate, length-append, length-replicate, length-reverse, reverse-reverse}
use Rattle.plant_data.specs.Configs.{IsAtMost}
use Rattle.cost_terms.specs.Cost.{nothing_built, step_cost}
use Rattle.cost_terms.specs.CostData.{greatest}
use Rattle.cost_terms.specs.Table.{Table, cost_from, plan_cost}
use Rattle.cost_terms.specs.declared.entries.Scored.{Scored}
use Rattle.cost_terms.specs.declared.prices.CostData.{CostData}
use Rattle.plan_program.specs.CostToCome.{IsPlanTo}
use Rattle.plan_program.specs.Plans.{IsAdmissible, entry_at, layer_at, no_entry}
use Rattle.plan_program.specs.Ways.{IsWay, last_config, way_cost}

pub reverse_more : (e : Scored) (es : List Scored) → reverse (e ∷ es) ≡ reverse es ++ e ∷ []
reverse_more e es = reverse_onto es e []

-- a plan with one more year
pub admissible_none : (t : Table) → IsAdmissible t []
admissible_none t = record { years = omega arith; accepted = λ k h. absurd (omega (arith, h)); grows = λ k h. absurd (omega (arith, h)) }

pub front_at : (xs : List Scored) (e : Scored) (k : ℕ) → k < length xs → entry_at (xs ++ e ∷ []) k ≡ entry_at xs k
front_at xs e k h = get_or-append xs (e ∷ []) no_entry k h

pub end_at : (xs : List Scored) (e : Scored) → entry_at (xs ++ e ∷ []) (length xs) ≡ e
end_at xs e = get_or-append_seam xs e [] no_entry

pub admissible_more : (t : Table) (xs : List Scored) (e : Scored) → IsAdmissible t xs → length xs < length t.layers → Contains (layer_at t (length xs)) e → (1 ≤ length xs → IsAtMost (entry_at xs (length xs - 1)).config e.config) → IsAdmissible t (xs ++ e ∷ [])
admissible_more t xs e a h c g = record {
  years = omega (arith, length-append xs (e ∷ []), h);
  accepted = λ k b. ⊎_elim
      (λ same. rw same (rw (end_at xs e) c))
      (λ other. rw (front_at xs e k (omega (arith, b, other, length-append xs (e ∷ [])))) (a.accepted k (omega (arith, b, other, length-append xs (e ∷ [])))))
      (cases_eq k (length xs));
  grows = λ k b. ⊎_elim
      (λ same.
      let at : entry_at (xs ++ e ∷ []) (k + 1) ≡ e = ap (λ i. entry_at (xs ++ e ∷ []) i) same ∙ end_at xs e in
      let before : entry_at (xs ++ e ∷ []) k ≡ entry_at xs (length xs - 1) = front_at xs e k (omega (arith, same)) ∙ ap (λ i. entry_at xs i) (omega (arith, same)) in
      rw at (rw before (g (omega (arith, same)))))
      (λ other.
      let n = length-append xs (e ∷ []) in
      rw (front_at xs e k (omega (arith, b, n))) (rw (front_at xs e (k + 1) (omega (arith, b, n, other))) (a.grows k (omega (arith, b, n, other)))))
      (cases_eq (k + 1) (length xs));
}

-- and without its last year
pub record Less (t : Table) (xs : List Scored) (e : Scored) : Type 0 where
  pub front : IsAdmissible t xs
  pub within : length xs < length t.layers
  pub accepted : Contains (layer_at t (length xs)) e
  pub grows : 1 ≤ length xs → IsAtMost (entry_at xs (length xs - 1)).config e.config

pub admissible_less : (t : Table) (xs : List Scored) (e : Scored) → IsAdmissible t (xs ++ e ∷ []) → Less t xs e
admissible_less t xs e a =
    let n = length-append xs (e ∷ []) in
    record {
      front = record {
        years = omega (arith, a.years, n);
        accepted = λ k b. rw (← front_at xs e k b) (a.accepted k (omega (arith, b, n)));
        grows = λ k b. rw (← front_at xs e k (omega (arith, b))) (rw (← front_at xs e (k + 1) b) (a.grows k (omega (arith, b, n))));
      };
      within = omega (arith, a.years, n);
      accepted = rw (← end_at xs e) (a.accepted (length xs) (omega (arith, n)));
      grows = λ s.
          let next : length xs - 1 + 1 ≡ length xs = omega (arith, s) in
          let at : entry_at (xs ++ e ∷ []) (length xs - 1 + 1) ≡ e = ap (λ i. entry_at (xs ++ e ∷ []) i) next ∙ end_at xs e in
          rw (← at) (rw (← front_at xs e (length xs - 1) (omega (arith, s))) (a.grows (length xs - 1) (omega (arith, s, n))));
    }

-- nothing built is at most whatever is
pub nothing_least : (c : CostData) (config : List ℕ) → IsAtMost (nothing_built c) config
nothing_least c config k h = omega (arith, get_or-replicate {A = ℕ} (length (greatest c)) k 0 0 (omega (arith, h, length-replicate {A = ℕ} (length (greatest c)) 0)))

-- the last entry of a plan is the first of the way
pub last_is_first : (t : Table) (es : List Scored) → 1 ≤ length es → (entry_at (reverse es) (length (reverse es) - 1)).config ≡ last_config t.economy es
last_is_first t [] h = absurd (omega (arith, h))
last_is_first t (e ∷ es) h =
    let n : length (reverse (e ∷ es)) - 1 ≡ length (reverse es) = omega (arith, length-reverse (e ∷ es), length-reverse es) in
    ap (λ k. (entry_at (reverse (e ∷ es)) k).config) n ∙ (ap (λ (xs : List Scored). (entry_at xs (length (reverse es))).config) (reverse_more e es) ∙ ap (λ (x : Scored). x.config) (end_at (reverse es) e))

pub way_plan : (t : Table) (es : List Scored) → IsWay t es → IsAdmissible t (reverse es)
way_plan t [] w = admissible_none t
way_plan t (e ∷ es) w =
    let n = length-reverse es in
    rw (reverse_more e es) (admissible_more t (reverse es) e (way_plan t es w.3) (rw n w.0) (rw n w.1) (λ s. rw (last_is_first t es (omega (arith, s, n))) w.2))

plan_way_back : (t : Table) (es : List Scored) → IsAdmissible t (reverse es) → IsWay t es
plan_way_back t [] a = tt
plan_way_back t (e ∷ es) a =
    let l = admissible_less t (reverse es) e (rw (← reverse_more e es) a) in
    let n = length-reverse es in
    (rw (← n) l.within, rw (← n) l.accepted, grown e es l.grows, plan_way_back t es l.front)
  where
    grown : (e : Scored) (es : List Scored) → (1 ≤ length (reverse es) → IsAtMost (entry_at (reverse es) (length (reverse es) - 1)).config e.config) → IsAtMost (last_config t.economy es) e.config
    grown e [] g = nothing_least t.economy e.config
    grown e (d ∷ ds) g = rw (← last_is_first t (d ∷ ds) (omega arith)) (g (omega (arith, length-reverse (d ∷ ds))))

pub plan_way : (t : Table) (plan : List Scored) → IsAdmissible t plan → IsWay t (reverse plan)
plan_way t plan a = plan_way_back t (reverse plan) (rw (reverse-reverse plan) a)

-- the cost of one more year
abbrev last_or : List ℕ → List Scored → List ℕ
last_or before [] = before
last_or before (e ∷ es) = last_or e.config es

sum_more : (a x y z w : ℕ) → x ≡ y + z → z ≡ w → a + x ≡ a + y + w
sum_more a x y z w e f = omega (arith, e, f)

sum_none : (x y : ℕ) → x ≡ y → x + 0 ≡ 0 + y
sum_none x y e = omega (arith, e)

cost_more : (c : CostData) (year : ℕ) (before : List ℕ) (xs : List Scored) (e : Scored) → cost_from c year before (xs ++ e ∷ []) ≡ cost_from c year before xs + step_cost c (year + length xs) (last_or before xs) e.config e.row
cost_more c year before [] e = sum_none _ _ (ap (λ y. step_cost c y before e.config e.row) (omega arith))
cost_more c year before (x ∷ xs) e =
    let more = cost_more c (year + 1) x.config xs e in
    let place : year + 1 + length xs ≡ year + length (x ∷ xs) = omega arith in
    let same = ap (λ y. step_cost c y (last_or x.config xs) e.config e.row) place in
    sum_more _ _ _ _ _ more same

last_push : (before : List ℕ) (xs : List Scored) (e : Scored) → last_or before (xs ++ e ∷ []) ≡ e.config
last_push before [] e = refl
last_push before (x ∷ xs) e = last_push x.config xs e

last_reverse : (c : CostData) (es : List Scored) → last_or (nothing_built c) (reverse es) ≡ last_config c es
last_reverse c [] = refl
last_reverse c (e ∷ es) = ap (λ (xs : List Scored). last_or (nothing_built c) xs) (reverse_more e es) ∙ last_push (nothing_built c) (reverse es) e

pub cost_same : (c : CostData) (es : List Scored) → plan_cost c (reverse es) ≡ way_cost c es
cost_same c [] = refl
cost_same c (e ∷ es) =
    let more = cost_more c 1 (nothing_built c) (reverse es) e in
    let place : 1 + length (reverse es) ≡ length es + 1 = omega (arith, length-reverse es) in
    let year = ap (λ y. step_cost c y (last_or (nothing_built c) (reverse es)) e.config e.row) place in
    let last = ap (λ (b : List ℕ). step_cost c (length es + 1) b e.config e.row) (last_reverse c es) in
    ap (λ (xs : List Scored). plan_cost c xs) (reverse_more e es) ∙ (more ∙ (λ i. cost_same c es i + (year ∙ last) i))

-- a plan to an entry, and the way to it
pub way_to : (t : Table) (e : Scored) (es : List Scored) → IsWay t (e ∷ es) → IsPlanTo t (length es + 1) e (reverse (e ∷ es))
way_to t e es w = record {
  admissible = way_plan t (e ∷ es) w;
  long = omega (arith, length-reverse (e ∷ es));
  some = omega arith;
  ends =
      let n : length es + 1 - 1 ≡ length (reverse es) = omega (arith, length-reverse es) in
      ap (λ k. entry_at (reverse (e ∷ es)) k) n ∙ (ap (λ (xs : List Scored). entry_at xs (length (reverse es))) (reverse_more e es) ∙ end_at (reverse es) e);
}

pub record WayOf (t : Table) (years : ℕ) (e : Scored) (plan : List Scored) : Type 0 where
  pub before : List Scored
  pub long : length before ≡ years
  pub same : plan ≡ reverse (e ∷ before)
  pub way : IsWay t (e ∷ before)

way_of_back : (t : Table) (years : ℕ) (e : Scored) (es : List Scored) → IsPlanTo t (years + 1) e (reverse es) → WayOf t years e (reverse es)
way_of_back t years e [] p = absurd (omega (arith, p.long))
way_of_back t years e (d ∷ es) p =
    let n : years + 1 - 1 ≡ length (reverse es) = omega (arith, p.long, length-reverse (d ∷ es), length-reverse es) in
    let same : d ≡ e = sym (end_at (reverse es) d) ∙ (sym (ap (λ (xs : List Scored). entry_at xs (length (reverse es))) (reverse_more d es)) ∙ (sym (ap (λ k. entry_at (reverse (d ∷ es)) k) n) ∙ p.ends)) in
    record {
      before = es;
      long = omega (arith, p.long, length-reverse (d ∷ es));
      same = λ i. reverse (same i ∷ es);
      way = subst (λ (x : Scored). IsWay t (x ∷ es)) same (plan_way_back t (d ∷ es) p.admissible);
    }

pub way_of : (t : Table) (years : ℕ) (e : Scored) (plan : List Scored) → IsPlanTo t (years + 1) e plan → WayOf t years e plan
way_of t years e plan p =
    let back = reverse-reverse plan in
    subst (λ (xs : List Scored). WayOf t years e xs) back (way_of_back t years e (reverse plan) (subst (λ (xs : List Scored). IsPlanTo t (years + 1) e xs) (sym back) p))
