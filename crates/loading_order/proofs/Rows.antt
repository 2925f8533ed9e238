-- Worked rows of the definitions.
use Rattle.std.proofs.Common.{◌≡◌, ℕ, List, [], ◌∷◌, map, replicate, refl}
use Rattle.plant_data.specs.declared.plant.Unit.{Unit as Machine}
use Rattle.plant_data.specs.declared.plant.Rule.{Rule}
use Rattle.plant_data.specs.declared.plant.Rule.TheVariants.{Merit, BaseFirst}
use Rattle.loading_order.specs.declared.blocks.Kind.{Kind}
use Rattle.loading_order.specs.declared.blocks.Kind.TheVariants.{Base, Peak}
use Rattle.loading_order.specs.LoadingOrder.{base_cost, peak_cost, order_of}
use Rattle.loading_order.specs.Maintenance.{availability, availability_of, hours_at, starting, turns}

-- coal at 3 dollars per million kcal, whose upper block burns less, gas in one block, and oil with a dear upper block
abbrev coal : Machine
coal = record { plant = 1; unit = 1; least = 50; full = 100; heat = 2400; inc = 2200; domestic = 300; foreign = 0; variable = 200; outage = 1000; repair = 1008 }

abbrev gas : Machine
gas = record { plant = 2; unit = 1; least = 30; full = 30; heat = 2000; inc = 2500; domestic = 0; foreign = 500; variable = 0; outage = 500; repair = 730 }

abbrev oil : Machine
oil = record { plant = 3; unit = 1; least = 20; full = 60; heat = 1000; inc = 3000; domestic = 100; foreign = 200; variable = 10; outage = 0; repair = 730 }

coal_base : base_cost coal ≡ 920000
coal_base = refl

cheaper_above : peak_cost coal ≡ 920000
cheaper_above = refl

dearer_above : peak_cost oil ≡ 910000
dearer_above = refl

abbrev loaded : Rule → List Machine → List (ℕ × Kind × ℕ)
loaded rule units = map (λ b. (b.unit, b.kind, b.capacity)) (order_of rule units)

all_by_cost : loaded Merit (coal ∷ gas ∷ oil ∷ []) ≡ (2, Base, 20) ∷ (2, Peak, 40) ∷ (0, Base, 50) ∷ (0, Peak, 50) ∷ (1, Base, 30) ∷ []
all_by_cost = refl

base_blocks_first : loaded BaseFirst (coal ∷ gas ∷ oil ∷ []) ≡ (2, Base, 20) ∷ (0, Base, 50) ∷ (1, Base, 30) ∷ (2, Peak, 40) ∷ (0, Peak, 50) ∷ []
base_blocks_first = refl

-- 1,008 hours fill a period of 730 hours and take 278 of the next
part_of_a_period : availability 1000 278 730 ≡ 5572
part_of_a_period = refl

runs_over : hours_at 730 (coal ∷ []) (turns (coal ∷ [])) (starting 730 (replicate 12 100) (replicate 12 50)) 0 ≡ 730 ∷ 278 ∷ replicate 10 0
runs_over = refl

second_period : availability_of 730 (coal ∷ []) (replicate 12 100) (replicate 12 50) 0 1 ≡ 5572
second_period = refl

-- coal is the largest, then oil, then gas
largest_first : turns (gas ∷ oil ∷ coal ∷ []) ≡ 2 ∷ 1 ∷ 0 ∷ []
largest_first = refl

-- in two periods of 730 hours, with 10 MW free in the first and 50 MW too little in the second, coal takes the first
-- and 278 hours of the second, and oil is then out where 64,300 MWh are wanting, and not where 65,700 are
below_zero : hours_at 730 (coal ∷ oil ∷ []) (turns (coal ∷ oil ∷ [])) (starting 730 (100 ∷ 100 ∷ []) (90 ∷ 150 ∷ [])) 1 ≡ 0 ∷ 730 ∷ []
below_zero = refl
