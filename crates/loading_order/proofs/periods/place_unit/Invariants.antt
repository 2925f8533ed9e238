use Rattle.std.proofs.Common.{◌≡◌, ℕ, ◌+◌, ◌*◌, ◌-◌, ◌<◌, ◌≤◌, ◌^◌, length, All}
use Rattle.loading_order.specs.Maintenance.{place_hours}
use Rattle.loading_order.proofs.periods.place_unit.Given as goal

abbrev pub invariant-loop-step : goal.invariant-loop-step
invariant-loop-step l =
    (length l.periods ≡ length l.initial.periods) × (l.left ≤ l.repair)
    × ((bound : ℕ) → All (λ p. (p.supply < 2 ^ 62) × (p.need + l.full * l.repair < bound)) l.initial.periods → All (λ p. (p.supply < 2 ^ 62) × (p.need + l.full * l.left < bound)) l.periods)
    × (place_hours l.hours l.full (length l.initial.periods - l._step) l.left l.periods ≡ place_hours l.hours l.full (length l.initial.periods) l.repair l.initial.periods)
    × (All (λ p. p.hours ≤ l.hours) l.initial.periods → All (λ p. p.hours ≤ l.hours) l.periods)
