-- The rows as they are written turn by turn, and the hours that the turns give.
use Rattle.std.proofs.Common.{◌≡◌, ℕ, zero, suc, ◌+◌, ◌-◌, ◌<◌, ◌≤◌, List, [], ◌∷◌, get_or, map, sym, ap, ◌∙◌, arith, refl, ◌==◌, true, false, cond, ⊎_elim, eq-eqb}
use Rattle.std.specs.List.{range_with_len, count_by}
use Rattle.std.specs.List.Sorted.{IsPermutation}
use Rattle.std.proofs.lemmas.Bool.{cases_eq, eqb-true, ne_eqb}
use Rattle.std.proofs.lemmas.List.Sorted.{sum_by-IsPermutation}
use Rattle.std.proofs.Math.Nat.{div-le_of_le-mul, mul-le-mul_left}
use Rattle.wasp_fixed.specs.declared.numbers.TheConstants.{M}
use Rattle.plant_data.specs.declared.plant.Unit.{Unit as Machine}
use Rattle.loading_order.specs.declared.periods.Period.{Period}
use Rattle.plant_data.specs.Units.{no_unit}
use Rattle.loading_order.specs.Maintenance.{availability, hours_at, open_again, placed}
use Rattle.loading_order.proofs.InOrder.{one_if, count_cons}

-- the hours of one unit in each period
abbrev pub hours_of : ℕ → Machine → List Period → List ℕ
hours_of H u periods = map (λ p. p.hours) (placed H u periods)

-- each unit in its turn writes its row over what was there
abbrev pub written : ℕ → List Machine → List ℕ → List Period → (ℕ → ℕ → ℕ) → ℕ → ℕ → ℕ
written H units [] periods so_far unit period = so_far unit period
written H units (i ∷ later) periods so_far unit period =
    let u = get_or units i no_unit in
    written H units later (open_again (placed H u periods))
    (λ v m. cond (v == i) (availability u.outage (get_or (hours_of H u periods) m 0) H) (so_far v m)) unit period

-- how many turns a unit has
abbrev pub times : ℕ → List ℕ → ℕ
times u places = count_by (λ i. u == i) places

-- a unit without a turn keeps its row
written_none : (H : ℕ) (units : List Machine) (places : List ℕ) (ps : List Period) (f : ℕ → ℕ → ℕ) (u m : ℕ) → times u places ≡ 0 → written H units places ps f u m ≡ f u m
written_none H units [] ps f u m e = refl
written_none H units (i ∷ later) ps f u m e =
    let v = get_or units i no_unit in
    let now : ℕ → ℕ = λ k. availability v.outage (get_or (hours_of H v ps) k 0) H in
    let next : ℕ → ℕ → ℕ = λ w k. cond (w == i) (now k) (f w k) in
    let c = count_cons (λ j. u == j) i later in
    elim (u == i) as (λ b. (u == i) ≡ b → written H units later (open_again (placed H v ps)) next u m ≡ f u m) [
      | true ↦ λ q. let o : one_if (u == i) ≡ one_if true = ap one_if q in absurd (omega (arith, e, c, o))
      | false ↦ λ q. written_none H units later (open_again (placed H v ps)) next u m (omega (arith, e, c)) ∙ ap (λ b. cond b (now m) (f u m)) q
    ] refl

-- a unit with one turn has what its turn gives it
pub written_once : (H : ℕ) (units : List Machine) (places : List ℕ) (ps : List Period) (f : ℕ → ℕ → ℕ) (u m : ℕ) → times u places ≡ 1 →
    written H units places ps f u m ≡ availability (get_or units u no_unit).outage (get_or (hours_at H units places ps u) m 0) H
written_once H units [] ps f u m e = absurd (omega (arith, e))
written_once H units (i ∷ later) ps f u m e =
    let v = get_or units i no_unit in
    let after = open_again (placed H v ps) in
    let now : ℕ → ℕ = λ k. availability v.outage (get_or (hours_of H v ps) k 0) H in
    let next : ℕ → ℕ → ℕ = λ w k. cond (w == i) (now k) (f w k) in
    let later_hours = hours_at H units later after u in
    let c = count_cons (λ j. u == j) i later in
    let has : List ℕ → ℕ = λ hs. availability (get_or units u no_unit).outage (get_or hs m 0) H in
    elim (u == i) as (λ b. (u == i) ≡ b → written H units later after next u m ≡ has (cond b (hours_of H v ps) later_hours)) [
      | true ↦ λ q.
          let o : one_if (u == i) ≡ one_if true = ap one_if q in
          written_none H units later after next u m (omega (arith, e, c, o))
          ∙ (ap (λ b. cond b (now m) (f u m)) q
          ∙ ap (λ j. availability (get_or units j no_unit).outage (get_or (hours_of H v ps) m 0) H) (sym (eqb-true u i q)))
      | false ↦ λ q. let o : one_if (u == i) ≡ one_if false = ap one_if q in written_once H units later after next u m (omega (arith, e, c, o))
    ] refl

range_none : (u a n : ℕ) → u < a → times u (range_with_len a n) ≡ 0
range_none u a zero h = refl
range_none u a (suc n) h =
    let o : one_if (u == a) ≡ one_if false = ap one_if (ne_eqb u a (λ e. omega (arith, e, h))) in
    omega (arith, count_cons (λ j. u == j) a (range_with_len (a + 1) n), o, range_none u (a + 1) n (omega arith))

range_once : (u a n : ℕ) → a ≤ u → u < a + n → times u (range_with_len a n) ≡ 1
range_once u a zero h k = absurd (omega arith)
range_once u a (suc n) h k =
    let c = count_cons (λ j. u == j) a (range_with_len (a + 1) n) in
    ⊎_elim
    (λ e. let o : one_if (u == a) ≡ one_if true = ap one_if (eq-eqb u a e) in omega (arith, c, o, range_none u (a + 1) n (omega (arith, e))))
    (λ d. let o : one_if (u == a) ≡ one_if false = ap one_if (ne_eqb u a d) in omega (arith, c, o, range_once u (a + 1) n (omega (arith, d)) (omega arith)))
    (cases_eq u a)

-- each unit has one turn
pub one_turn : (n : ℕ) (turns : List ℕ) → IsPermutation (range_with_len 0 n) turns → (u : ℕ) → u < n → times u turns ≡ 1
one_turn n turns m u h =
    sum_by-IsPermutation (λ i. cond (u == i) 1 0) (range_with_len 0 n) turns m ∙ range_once u 0 n (omega arith) (omega (arith, h))

-- an availability is at most what outages leave
pub availability_small : (outage out H : ℕ) → 1 ≤ H → availability outage out H ≤ M - outage
availability_small outage out H h =
    div-le_of_le-mul H (let k : H - out ≤ H = omega arith in omega (arith, mul-le-mul_left (M - outage) k))
