-- Steps of the loops that written units in their turns.
use Rattle.std.proofs.Common.{◌≡◌, ℕ, ◌+◌, ◌*◌, ◌<◌, ◌≤◌, ◌++◌, ◌==◌, ◌⊎◌, List, [], ◌∷◌, length, map, get_or, take, drop, set, sym, ap, ◌∙◌, arith, refl, subst, ⊎_elim, inl, inr, true, false, cond, is_lt, ◌^◌}
use Rattle.std.specs.List.{range_with_len, All, zip}
use Rattle.std.specs.List.Sorted.{IsPermutation}
use Rattle.std.specs.Ordering.{nat_cmp}
use Rattle.std.specs.Cmp.Lexicographic.{slice_cmp, nat_list_cmp_total}
use Rattle.std.proofs.lemmas.Bool.{cases_eq, cases_lt, ne_eqb}
use Rattle.std.proofs.Math.Nat.{mul-le-mul_right}
use Rattle.std.proofs.Common.{eq-eqb}
use Rattle.std.proofs.lemmas.List.{take_more, drop_more, length-take-le, append_assoc, get_or-map, length-map, at_drop_more, set_at, get_or_at, map_more}
use Rattle.std.proofs.lemmas.Slice.Zip.{get_or-zip, length-zip}
use Rattle.std.proofs.lemmas.List.FromFn.{get_or-range_with_len, length-range_with_len}
use Rattle.std.proofs.lemmas.List.Sorted.{ranks_by, All-permutation}
use Rattle.plant_data.specs.declared.plant.Unit.{Unit as Machine}
use Rattle.loading_order.specs.declared.periods.Period.{Period}
use Rattle.plant_data.specs.Units.{no_unit, HasDistinctUnits}
use Rattle.loading_order.specs.Maintenance.{turn_key, turns, open_again, place_hours, availability, starting, no_period}
use Rattle.loading_order.proofs.Written.{written, hours_of}
use Rattle.loading_order.proofs.InOrder.{in_order_is, all_from_places}
use Rattle.loading_order.proofs.SameBlock.{tied_keys}

pub places_within : (n : ℕ) → All (λ i. i < n) (range_with_len 0 n)
places_within n = λ k d h.
    let l : k < n = omega (arith, length-range_with_len 0 n) in
    omega (arith, get_or-range_with_len 0 n k d l)

-- units with one turn are one
same_turn : (units : List Machine) → HasDistinctUnits units → (i j : ℕ) → i < length units → j < length units →
    is_lt (slice_cmp nat_cmp (turn_key (get_or units i no_unit)) (turn_key (get_or units j no_unit))) ≡ false →
    is_lt (slice_cmp nat_cmp (turn_key (get_or units j no_unit)) (turn_key (get_or units i no_unit))) ≡ false → i ≡ j
same_turn units d i j h k p q =
    let e = tied_keys (turn_key (get_or units i no_unit)) (turn_key (get_or units j no_unit)) p q in
    d i j h k (ap (λ l. get_or l 1 0) e) (ap (λ l. get_or l 2 0) e)

-- a sort of the places by their turns gives the turns
pub turns_are : (units : List Machine) (places done : List ℕ) → HasDistinctUnits units → places ≡ range_with_len 0 (length units) → IsPermutation places done →
    ((k d : ℕ) → 0 ≤ k → k + 1 < length done → is_lt (slice_cmp nat_cmp (turn_key (get_or units (get_or done (k + 1) d) no_unit)) (turn_key (get_or units (get_or done k d) no_unit))) ≡ false) → done ≡ turns units
turns_are units places done d e m s =
    let n = length units in
    let P : ℕ → Type 0 = λ i. i < n in
    let all : All P (range_with_len 0 n) = places_within n in
    let m2 : IsPermutation (range_with_len 0 n) done = subst (λ ps. IsPermutation ps done) e m in
    in_order_is (λ i j. is_lt (slice_cmp nat_cmp (turn_key (get_or units i no_unit)) (turn_key (get_or units j no_unit))))
    (ranks_by nat_list_cmp_total (λ i. turn_key (get_or units i no_unit))) P (λ i j h k. same_turn units d i j h k)
    (range_with_len 0 n) done (all_from_places P (range_with_len 0 n) all) m2
    (all_from_places P done (All-permutation P (range_with_len 0 n) done m2 all)) s

pub starting_more : (H : ℕ) (cs ps : List ℕ) (m : ℕ) → m < length ps → length cs ≡ length ps → take (m + 1) (starting H cs ps) ≡ take m (starting H cs ps) ++ record { supply = get_or cs m 0 * H; need = get_or ps m 0 * H; hours = 0 } ∷ []
starting_more H cs ps m h e =
    let l : m < length (zip cs ps) = omega (arith, length-zip cs ps) in
    let f : ℕ × ℕ → Period = λ c. record { supply = c.0 * H; need = c.1 * H; hours = 0 } in
    let n : m < length (starting H cs ps) = rw length-map l in
    let at : get_or (starting H cs ps) m no_period ≡ record { supply = get_or cs m 0 * H; need = get_or ps m 0 * H; hours = 0 } =
    get_or-map f (zip cs ps) m (0, 0) no_period l ∙ ap f (get_or-zip cs ps m (0, 0) (omega arith) h) in
    take_more (starting H cs ps) m no_period n ∙ ap (λ p. take m (starting H cs ps) ++ p ∷ []) at

pub length-starting : (H : ℕ) (cs ps : List ℕ) → length cs ≡ length ps → length (starting H cs ps) ≡ length ps
length-starting H cs ps e = rw length-map (omega (arith, length-zip cs ps))

-- a period that is open again
abbrev pub opened : Period → Period
opened p = record { supply = p.supply; need = p.need; hours = 0 }

pub open_more : (ps : List Period) (m : ℕ) → m < length ps → set (open_again (take m ps) ++ drop m ps) m (opened (get_or ps m no_period)) ≡ open_again (take (m + 1) ps) ++ drop (m + 1) ps
open_more ps m h =
    let p = get_or ps m no_period in
    let front = open_again (take m ps) in
    let n : length front ≡ m = rw length-map (length-take-le m ps (omega arith)) in
    ap (λ qs. set (front ++ qs) m (opened p)) (drop_more ps m no_period h)
    ∙ (set_at front p (drop (m + 1) ps) (opened p) m n
    ∙ (sym (append_assoc front (opened p ∷ []) (drop (m + 1) ps))
    ∙ ap (λ qs. qs ++ drop (m + 1) ps) (sym (map_more opened ps m no_period h))))

pub open_at : (ps : List Period) (m : ℕ) → m < length ps → get_or (open_again (take m ps) ++ drop m ps) m no_period ≡ get_or ps m no_period
open_at ps m h =
    let front = open_again (take m ps) in
    let n : length front ≡ m = rw length-map (length-take-le m ps (omega arith)) in
    ap (λ qs. get_or (front ++ qs) m no_period) (drop_more ps m no_period h) ∙ get_or_at front (get_or ps m no_period) (drop (m + 1) ps) no_period m n

-- what a unit has depends on what it had alone
pub written_at : (H : ℕ) (units : List Machine) (places : List ℕ) (ps : List Period) (f g : ℕ → ℕ → ℕ) (u m : ℕ) → f u m ≡ g u m → written H units places ps f u m ≡ written H units places ps g u m
written_at H units [] ps f g u m e = e
written_at H units (i ∷ later) ps f g u m e =
    let v = get_or units i no_unit in
    let placed = place_hours H v.full (length ps) v.repair ps in
    let now = availability v.outage (get_or (hours_of H v ps) m 0) H in
    written_at H units later (open_again placed)
    (λ w k. cond (w == i) (availability v.outage (get_or (hours_of H v ps) k 0) H) (f w k))
    (λ w k. cond (w == i) (availability v.outage (get_or (hours_of H v ps) k 0) H) (g w k)) u m
    (elim (u == i) as (λ b. cond b now (f u m) ≡ cond b now (g u m)) [ true ↦ refl | false ↦ e ])

-- each turn is a unit's
pub each_within : (n : ℕ) (done : List ℕ) → IsPermutation (range_with_len 0 n) done → All (λ i. i < n) done
each_within n done m = All-permutation (λ i. i < n) (range_with_len 0 n) done m (places_within n)

-- rows of different units are apart
pub rows_apart : (u place n m : ℕ) → m < n → (u ≡ place → ⊥) → (u * n + m < place * n) ⊎ (place * n + n ≤ u * n + m)
rows_apart u place n m h d =
    elim (cases_lt u place) [
      | inl lt ↦ inl (let k : u + 1 ≤ place = omega arith in omega (arith, mul-le-mul_right n k))
      | inr ge ↦ inr (let k : place + 1 ≤ u = omega (arith, d) in omega (arith, mul-le-mul_right n k))
    ]

-- one turn of the loop
pub turn_step : (H : ℕ) (units : List Machine) (places : List ℕ) (t P : ℕ) (ps placed next : List Period) (f g : ℕ → ℕ → ℕ) (place : ℕ) →
    t < length places → get_or places t 0 ≡ place → length placed ≡ P →
    placed ≡ place_hours H (get_or units place no_unit).full (length ps) (get_or units place no_unit).repair ps → next ≡ open_again placed →
    ((m : ℕ) → m < P → g place m ≡ availability (get_or units place no_unit).outage (get_or placed m no_period).hours H) →
    ((v m : ℕ) → (v ≡ place → ⊥) → m < P → g v m ≡ f v m) →
    (u m : ℕ) → m < P → written H units (drop (t + 1) places) next g u m ≡ written H units (drop t places) ps f u m
turn_step H units places t P ps placed next f g place h pe lp ep en own other u m l =
    let v = get_or units place no_unit in
    let now : ℕ → ℕ = λ k. availability v.outage (get_or (hours_of H v ps) k 0) H in
    let F : ℕ → ℕ → ℕ = λ w k. cond (w == place) (now k) (f w k) in
    let at : get_or (hours_of H v ps) m 0 ≡ (get_or placed m no_period).hours =
    ap (λ qs. get_or (map (λ (p : Period). p.hours) qs) m 0) (sym ep) ∙ get_or-map (λ (p : Period). p.hours) placed m no_period 0 (omega (arith, lp)) in
    let same : g u m ≡ F u m = ⊎_elim
    (λ e. ap (λ w. g w m) e ∙ (own m l ∙ (ap (λ x. availability v.outage x H) (sym at) ∙ sym (ap (λ b. cond b (now m) (f u m)) (eq-eqb u place e)))))
    (λ d. other u m d l ∙ sym (ap (λ b. cond b (now m) (f u m)) (ne_eqb u place d)))
    (cases_eq u place) in
    let start : written H units (drop t places) ps f u m ≡ written H units (place ∷ drop (t + 1) places) ps f u m =
    at_drop_more (λ qs. written H units qs ps f u m) places t 0 h ∙ ap (λ q. written H units (q ∷ drop (t + 1) places) ps f u m) pe in
    ap (λ qs. written H units (drop (t + 1) places) qs g u m) (en ∙ ap open_again ep)
    ∙ (written_at H units (drop (t + 1) places) (open_again (place_hours H v.full (length ps) v.repair ps)) g F u m same ∙ sym start)

pub open_bounds : (L : ℕ) (ps : List Period) → All (λ p. (p.supply < 2 ^ 62) × (p.need < L)) ps → All (λ p. (p.supply < 2 ^ 62) × (p.need < L)) (open_again ps)
open_bounds L ps a = λ k d h.
    let n : k < length ps = omega (arith, length-map ps opened) in
    rw (get_or-map opened ps k d d n) (a k d n)

pub open_zero : (H : ℕ) (ps : List Period) → All (λ p. p.hours ≤ H) (open_again ps)
open_zero H ps = λ k d h.
    let n : k < length ps = omega (arith, length-map ps opened) in
    rw (get_or-map opened ps k d d n) (omega arith)
