use Rattle.std.proofs.Common.{◌≡◌, ◌<◌, ◌≤◌, ◌^◌, take, All}
use Rattle.loading_order.specs.Maintenance.{starting}
use Rattle.loading_order.proofs.periods.start_periods.Given as goal

abbrev pub invariant-loop-m : goal.invariant-loop-m
invariant-loop-m l =
    (take l.m l.periods ≡ take l.m (starting l.hours l.capacities l.peaks))
    × All (λ p. (p.supply < 2 ^ 62) × (p.need < 2 ^ 61) × (p.hours ≤ l.hours)) (take l.m l.periods)
