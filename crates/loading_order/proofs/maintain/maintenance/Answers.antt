use Rattle.std.proofs.Common.{◌≡◌, ◌⊎◌, ℕ, inr, ◌+◌, ◌-◌, ◌*◌, ◌<◌, ◌≤◌, ◌^◌, List, length, take, drop, sym, ap, ◌∙◌, arith, get_or, subst}
use Rattle.std.specs.List.{range_with_len}
use Rattle.std.specs.List.Sorted.{IsPermutation}
use Rattle.std.proofs.lemmas.List.{get_or-take, length-take-le, at_drop_all}
use Rattle.std.proofs.Math.Nat.{mul-le-mul, mul-le-mul_right}
use Rattle.plant_data.specs.Units.{no_unit}
use Rattle.loading_order.specs.Maintenance.{turns, starting, hours_at, availability, open_again, no_period}
use Rattle.loading_order.proofs.Written.{written, written_once, one_turn, availability_small}
use Rattle.loading_order.proofs.TurnSteps.{each_within, turn_step, rows_apart, open_bounds, open_zero}
use Rattle.loading_order.proofs.maintain.maintenance.Goals as goal

within : (n t : ℕ) (work : List ℕ) → n ≤ length work → t < n → IsPermutation (range_with_len 0 n) (take n work) → get_or work t 0 < n
within n t work l h m =
    let e = get_or-take n work t 0 h in
    omega (arith, each_within n (take n work) m t 0 (omega (arith, length-take-le n work l)), e)

pub bounds-units-place : goal.bounds-units-place
bounds-units-place c = within (length c.args.units.now) c.loop-turn.turn c.write_turns.new.work (omega (arith, c.requires.work, c.write_turns.auto.work)) c.loop-turn-test.true c.write_turns.ensures.places

pub offset_bounds-units-place : goal.offset_bounds-units-place
offset_bounds-units-place c = omega (arith, within (length c.args.units.now) c.loop-turn.turn c.write_turns.new.work (omega (arith, c.requires.work, c.write_turns.auto.work)) c.loop-turn-test.true c.write_turns.ensures.places, c.requires.few)

pub write_row-requires-clause-room : goal.write_row-requires-clause-room
write_row-requires-clause-room c =
    let w = within (length c.args.units.now) c.loop-turn.turn c.write_turns.new.work (omega (arith, c.requires.work, c.write_turns.auto.work)) c.loop-turn-test.true c.write_turns.ensures.places in
    let k : get_or c.write_turns.new.work c.loop-turn.turn 0 + 1 ≤ length c.args.units.now = omega (arith, w) in
    let e : length c.place_unit.new.periods ≡ length c.args.peaks.now = c.place_unit.auto.periods ∙ c.loop-turn.invariant.length_is in
    rw e (omega (arith, mul-le-mul_right (length c.args.peaks.now) k, c.requires.room, c.loop-turn.auto.room))

last_row : (place n P : ℕ) → place < n → place * P + P ≤ n * P
last_row place n P h = let k : place + 1 ≤ n = omega arith in omega (arith, mul-le-mul_right P k)

pub loop-turn-preserved : goal.loop-turn-preserved
loop-turn-preserved c =
    let units = c.args.units.now in
    let N = length units in
    let P = length c.args.peaks.now in
    let t = c.loop-turn.turn in
    let v = c.loop-turn.invariant in
    let work : List ℕ = c.write_turns.new.work in
    let W : List ℕ = take N work in
    let place = get_or work t 0 in
    let lw : N ≤ length work = omega (arith, c.requires.work, c.write_turns.auto.work) in
    let nw : length W ≡ N = length-take-le N work lw in
    let lp : length c.place_unit.new.periods ≡ P = c.place_unit.auto.periods ∙ v.length_is in
    let u = c.requires.units place no_unit (within N t work lw c.loop-turn-test.true c.write_turns.ensures.places) in
    let next : c.write_row.new.periods ≡ open_again c.place_unit.new.periods = c.write_row.ensures.periods in
    let energy : (get_or units place no_unit).full * (get_or units place no_unit).repair ≤ 175200000 = omega (arith, mul-le-mul u.full u.repair) in
    let L = 2 ^ 62 - 175200000 * (N - (t + 1)) in
    let same : turns units ≡ W = sym c.write_turns.ensures.value in
    let into : get_or W t 0 ≡ place = get_or-take N work t 0 c.loop-turn-test.true in
    let before : ℕ → ℕ → ℕ = λ w k. get_or c.loop-turn.room (w * P + k) 0 in
    let after : ℕ → ℕ → ℕ = λ w k. get_or c.write_row.new.room (w * P + k) 0 in
    let nt : t < length W = omega (arith, nw, c.loop-turn-test.true) in
    record {
      length_is = c.write_row.auto.periods ∙ lp;
      bounds = λ k d h.
          let n : k < length (open_again c.place_unit.new.periods) = omega (arith, ap length next, h) in
          let q = open_bounds L c.place_unit.new.periods (c.place_unit.ensures.bound L (λ j e hj.
          let w = v.bounds j e hj in (w.0, omega (arith, w.1, energy, c.loop-turn-test.true)))) k d n in
          rw next (q.0, omega (arith, q.1));
      open_hours = rw next (open_zero c.args.hours c.place_unit.new.periods);
      state = λ q m hu hm.
          let s : written c.args.hours units (drop (t + 1) W) c.write_row.new.periods after q m ≡ written c.args.hours units (drop t W) c.loop-turn.periods before q m =
          turn_step c.args.hours units W t P c.loop-turn.periods c.place_unit.new.periods c.write_row.new.periods before after place nt into lp c.place_unit.ensures.value next
          (λ k hk. subst (λ n. get_or c.write_row.new.room (place * n + k) 0 ≡ availability (get_or units place no_unit).outage (get_or c.place_unit.new.periods k no_period).hours c.args.hours) lp (c.write_row.ensures.row k (omega (arith, lp, hk))))
          (λ w k e hk. c.write_row.ensures.rest (w * P + k) (subst (λ n. (w * P + k < place * n) ⊎ (place * n + n ≤ w * P + k)) (sym lp) (rows_apart w place P k hk e)))
          q m hm in
          ap (λ qs. written c.args.hours units (drop (t + 1) qs) c.write_row.new.periods after q m) same
          ∙ (s ∙ (ap (λ qs. written c.args.hours units (drop t qs) c.loop-turn.periods before q m) (sym same) ∙ v.state q m hu hm));
      rest = λ k far. c.write_row.ensures.rest k (inr (subst (λ n. place * n + n ≤ k) (sym lp) (omega (arith, last_row place N P (within N t work lw c.loop-turn-test.true c.write_turns.ensures.places), far)))) ∙ v.rest k far;
    }

pub returns-clause-value : goal.returns-clause-value
returns-clause-value c = λ u m h l.
    let units = c.args.units.now in
    let N = length units in
    let P = length c.args.peaks.now in
    let W : List ℕ = take N c.write_turns.new.work in
    let e : W ≡ turns units = c.write_turns.ensures.value in
    let f : ℕ → ℕ → ℕ = λ v k. get_or c.loop-turn.room (v * P + k) 0 in
    let nw : length W ≡ N = length-take-le N c.write_turns.new.work (omega (arith, c.requires.work, c.write_turns.auto.work)) in
    let done : written c.args.hours units (drop c.loop-turn.turn (turns units)) c.loop-turn.periods f u m ≡ f u m =
    at_drop_all (λ qs. written c.args.hours units qs c.loop-turn.periods f u m) (turns units) c.loop-turn.turn (omega (arith, ap length e, nw, c.loop-turn-test.false)) in
    sym done ∙ (c.loop-turn.invariant.state u m h l ∙ written_once c.args.hours units (turns units) (starting c.args.hours c.args.capacities.now c.args.peaks.now) (λ v k. get_or c.args.room.now (v * P + k) 0) u m
    (rw (← e) (one_turn N W c.write_turns.ensures.places u h)))

pub returns-clause-bounded : goal.returns-clause-bounded
returns-clause-bounded c = λ u m h l.
    let units = c.args.units.now in
    let hours = get_or (hours_at c.args.hours units (turns units) (starting c.args.hours c.args.capacities.now c.args.peaks.now) u) m 0 in
    rw (returns-clause-value c u m h l) (availability_small (get_or units u no_unit).outage hours c.args.hours c.requires.hours.0)
