use Rattle.std.proofs.Common.{◌≡◌, ℕ, ◌+◌, ◌-◌, ◌*◌, ◌<◌, ◌≤◌, ◌^◌, length, All, drop, slice_index}
use Rattle.loading_order.specs.Maintenance.{turns, starting}
use Rattle.loading_order.proofs.Written.{written}
use Rattle.loading_order.proofs.maintain.maintenance.Given as goal

abbrev pub invariant-loop-turn : goal.invariant-loop-turn
invariant-loop-turn l =
    record {
      length_is : length l.periods ≡ length l.peaks;
      bounds : All (λ p. (p.supply < 2 ^ 62) × (p.need + 175200000 * (length l.units - l.turn) < 2 ^ 62)) l.periods;
      open_hours : All (λ p. p.hours ≤ l.hours) l.periods;
      state : (u m : ℕ) → u < length l.units → m < length l.peaks →
          written l.hours l.units (drop l.turn (turns l.units)) l.periods (λ v k. slice_index l.room (v * length l.peaks + k)) u m
          ≡ written l.hours l.units (turns l.units) (starting l.hours l.capacities l.peaks) (λ v k. slice_index l.initial.room (v * length l.peaks + k)) u m;
      rest : (k : ℕ) → length l.units * length l.peaks ≤ k → slice_index l.room k ≡ slice_index l.initial.room k;
    }
