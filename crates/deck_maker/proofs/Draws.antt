-- The range of a draw, and its step.
use Rattle.std.proofs.Common.{◌≡◌, ℕ, zero, suc, ◌+◌, ◌*◌, ◌%◌, ◌^◌, ◌<◌, ◌≤◌, ap, arith, add-one}
use Rattle.deck_maker.specs.Stream.{draw, state_behind}
use Rattle.deck_maker.specs.TrialDeck.{machine}
use Rattle.deck_maker.specs.Ranges.{IsDrawn}

pub state_next : (seed n : ℕ) → state_behind seed (n + 1) ≡ (1_664_525 * state_behind seed n + 1_013_904_223) % 2 ^ 32
unfolding state_behind
state_next seed n = ap (state_behind seed) (add-one n)

pub state_small : (seed n : ℕ) → state_behind seed n < 2 ^ 32
unfolding state_behind
state_small seed zero = omega arith
state_small seed (suc n) = omega arith

pub draw_below : (seed n count : ℕ) → 0 < count → draw seed n count < count
unfolding draw
draw_below seed n count h = omega (arith, h)

pub is_drawn : (seed drawn smallest : ℕ) → 30 ≤ smallest → smallest ≤ 40 → IsDrawn (machine seed drawn smallest)
is_drawn seed drawn smallest low high = record {
  small = omega arith;
  large = omega (arith, draw_below seed drawn 40 (omega arith));
  least_heat = omega arith;
  most_heat = omega (arith, draw_below seed (drawn + 1) 400 (omega arith));
  least_fuel = omega arith;
  most_fuel = omega (arith, draw_below seed (drawn + 2) 2 (omega arith));
  outage = omega (arith, draw_below seed (drawn + 3) 700 (omega arith));
  repair = omega (arith, draw_below seed (drawn + 4) 400 (omega arith));
}
