-- The hours that are placed add up to the repair hours.
use Rattle.std.proofs.Common.{◌≡◌, ℕ, zero, suc, ◌+◌, ◌-◌, ◌*◌, ◌<◌, ◌≤◌, List, [], ◌∷◌, length, get_or, min, sym, ap, ◌∙◌, arith, Bool, true, false, not, refl, ◌==◌, ◌&&◌, ◌||◌, ⊎_elim, inl, inr, eq-eqb, subst, set, cond, add-one}
use Rattle.std.specs.List.{All, IsFirstBest, count_by, sum_by}
use Rattle.std.proofs.lemmas.Bool.{cases_lt, ne_eqb}
use Rattle.std.proofs.lemmas.Bool.Decides.{eqb_tells}
use Rattle.std.proofs.lemmas.List.{get_or_default}
use Rattle.std.proofs.lemmas.List.Elements.{All-set}
use Rattle.std.proofs.lemmas.List.MinMax.{IsFirstBest-from_best_of}
use Rattle.std.proofs.lemmas.List.Sums.{sum_by-set, sum_by-cons, count_by-le-length}
use Rattle.loading_order.specs.declared.periods.Period.{Period}
use Rattle.loading_order.specs.Maintenance.{HoursAddUp, is_better, most_free, no_period, place_hours, with_hours}
use Rattle.loading_order.proofs.FirstBest.{better_ranks, freest_is}
use Rattle.loading_order.proofs.InOrder.{count_cons, one_if}
use Rattle.loading_order.proofs.PlaceSteps.{place_none, place_step}

-- the periods without hours of the unit
abbrev open_ones : List Period → ℕ
open_ones ps = count_by (λ p. p.hours == 0) ps

abbrev all_hours : List Period → ℕ
all_hours ps = sum_by (λ p. p.hours) ps

none_open : (ps : List Period) → All (λ p. (p.hours == 0) ≡ false) ps → open_ones ps ≡ 0
none_open [] a = refl
none_open (p ∷ ps) a =
    let o : one_if (p.hours == 0) ≡ one_if false = ap one_if (a 0 p (omega arith)) in
    omega (arith, count_cons (λ q. q.hours == 0) p ps, o, none_open ps (λ k d h. a (suc k) d (omega arith)))

all_open : (ps : List Period) → All (λ p. p.hours ≡ 0) ps → (open_ones ps ≡ length ps) × (all_hours ps ≡ 0)
all_open [] a = (refl, refl)
all_open (p ∷ ps) a =
    let here : p.hours ≡ 0 = a 0 p (omega arith) in
    let o : one_if (p.hours == 0) ≡ one_if true = ap one_if (eq-eqb p.hours 0 here) in
    let rest = all_open ps (λ k d h. a (suc k) d (omega arith)) in
    (omega (arith, count_cons (λ q. q.hours == 0) p ps, o, rest.0), omega (arith, sum_by-cons (λ (q : Period). q.hours) p ps, here, rest.1))

-- there is a freest period
has_freest : (ps : List Period) → 1 ≤ length ps → IsFirstBest is_better ps (length ps) (most_free ps)
has_freest [] h = absurd (omega arith)
has_freest (p ∷ ps) h =
    let best = IsFirstBest-from_best_of better_ranks p ps in
    subst (λ k. IsFirstBest is_better (p ∷ ps) (length (p ∷ ps)) k) (freest_is (p ∷ ps) (length (p ∷ ps)) best.0 best.1 refl) best.1

not_open : (x y z : Bool) → (x && (not y || z)) ≡ false → y ≡ false → x ≡ false
not_open false y z e f = refl
not_open true true z e f = absurd (cc (e, f))
not_open true false z e f = e

-- the freest period is open, where one is
freest_open : (ps : List Period) → 1 ≤ open_ones ps → (most_free ps < length ps) × ((get_or ps (most_free ps) no_period).hours ≡ 0)
freest_open ps h =
    let first = has_freest ps (omega (arith, count_by-le-length (λ p. p.hours == 0) ps)) in
    let at = most_free ps in
    let best = get_or ps at no_period in (
      first.0,
      ⊎_elim (λ t. t.1)
          (λ t. absurd (omega (
            arith,
            none_open ps (λ k d l.
                let p = get_or ps k d in
                let o : (get_or ps at d).hours ≡ best.hours = ap (λ (q : Period). q.hours) (get_or_default ps at d no_period first.0) in
                not_open (p.hours == 0) ((get_or ps at d).hours == 0) _ (first.1 k d l) (ap (λ n. n == 0) o ∙ t.0)),
          )))
          (eqb_tells best.hours 0),
    )

-- one step: the freest period takes what it can
sum_step : (H full n left : ℕ) (ps : List Period) → 1 ≤ H → left ≤ open_ones ps * H → open_ones ps ≤ n + 1 → (left ≡ 0 → ⊥) →
    (left - min left H ≤ open_ones (with_hours ps (most_free ps) full (min left H)) * H)
    × (open_ones (with_hours ps (most_free ps) full (min left H)) ≤ n)
    × (all_hours (with_hours ps (most_free ps) full (min left H)) + (left - min left H) ≡ all_hours ps + left)
sum_step H full n left ps h l m f =
    let part = min left H in
    let at = most_free ps in
    let some : 1 ≤ left = elim (cases_lt 0 left) [ inl lt ↦ lt | inr ge ↦ absurd (f (omega (arith, ge))) ] in
    let open1 : 1 ≤ open_ones ps = elim (cases_lt 0 (open_ones ps)) [
      | inl lt ↦ lt
      | inr ge ↦
          let z : open_ones ps ≡ 0 = omega (arith, ge) in
          let e : open_ones ps * H ≡ 0 * H = ap (λ k. k * H) z in
          absurd (omega (arith, e, l, some))
    ] in
    let free = freest_open ps open1 in
    let old = get_or ps at no_period in
    let new : Period = record { supply = old.supply; need = old.need + full * part; hours = part } in
    let some_part : 1 ≤ part = omega (arith, some, h) in
    let taken : one_if (old.hours == 0) ≡ one_if true = ap one_if (eq-eqb old.hours 0 free.1) in
    let closed : one_if (part == 0) ≡ one_if false = ap one_if (ne_eqb part 0 (λ e. omega (arith, e, some_part))) in
    let fewer : open_ones (set ps at new) + 1 ≡ open_ones ps = omega (arith, sum_by-set (λ (p : Period). cond (p.hours == 0) 1 0) ps at new no_period free.0, taken, closed) in
    let more : all_hours (set ps at new) ≡ all_hours ps + part = omega (arith, sum_by-set (λ (p : Period). p.hours) ps at new no_period free.0, free.1) in
    let e : open_ones ps * H ≡ (open_ones (set ps at new) + 1) * H = ap (λ k. k * H) (sym fewer) in
    let within : part ≤ left = omega arith in
    (omega (arith, l, e), omega (arith, fewer, m), omega (arith, more, within))

place_sum : (H full n left : ℕ) (ps : List Period) → 1 ≤ H → left ≤ open_ones ps * H → open_ones ps ≤ n → all_hours (place_hours H full n left ps) ≡ all_hours ps + left
place_sum H full zero left ps h l m =
    let e : open_ones ps * H ≡ 0 * H = ap (λ k. k * H) (omega (arith, m)) in
    let z : left ≡ 0 = omega (arith, l, e) in
    omega (arith, z)
place_sum H full (suc n) left ps h l m =
    ⊎_elim
    (λ t. omega (arith, ap all_hours (place_none H full (suc n) left ps t.1), t.1))
    (λ t.
    let s = sum_step H full n left ps h l (omega (arith, m)) t.1 in
    ap all_hours (place_step H full (suc n) n left ps (sym (add-one n)) t.1)
    ∙ (place_sum H full n (left - min left H) (with_hours ps (most_free ps) full (min left H)) h s.0 s.1 ∙ s.2))
    (eqb_tells left 0)

place_small : (H full n left : ℕ) (ps : List Period) → All (λ p. p.hours ≤ H) ps → All (λ p. p.hours ≤ H) (place_hours H full n left ps)
place_small H full zero left ps a = a
place_small H full (suc n) left ps a =
    let at = most_free ps in
    let part = min left H in
    let old = get_or ps at no_period in
    let new : Period = record { supply = old.supply; need = old.need + full * part; hours = part } in
    let P : List Period → Type 0 = λ qs. All (λ p. p.hours ≤ H) qs in
    ⊎_elim
    (λ t. subst P (sym (place_none H full (suc n) left ps t.1)) a)
    (λ t. subst P (sym (place_step H full (suc n) n left ps (sym (add-one n)) t.1))
    (place_small H full n (left - part) (set ps at new) (All-set (λ (p : Period). p.hours ≤ H) ps at new (omega arith) a)))
    (eqb_tells left 0)

pub hours_add_up : HoursAddUp
hours_add_up = λ H u ps h zeros fits.
    let all = all_open ps zeros in
    let e : open_ones ps * H ≡ length ps * H = ap (λ k. k * H) all.0 in (
      omega (arith, place_sum H u.full (length ps) u.repair ps h (omega (arith, fits, e)) (omega (arith, all.0)), all.1),
      place_small H u.full (length ps) u.repair ps (λ k d l. omega (arith, zeros k d l)),
    )
