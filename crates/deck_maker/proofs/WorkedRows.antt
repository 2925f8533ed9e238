-- Worked rows of the definitions.
use Rattle.std.proofs.Common.{◌≡◌, [], ◌∷◌, drop, refl}
use Rattle.std.specs.Prelude.{codes}
use Rattle.deck_lines.specs.declared.head.Head.TheVariants as heads
use Rattle.deck_check.specs.Readings.{first}
use Rattle.deck_maker.specs.Stream.{draw, state_behind}
use Rattle.deck_maker.specs.TrialDeck.{fuels, load, named, plant, thermal, trial, tunnel, unnamed, water}

first_states : state_behind 7 1 ≡ 1_025_555_898
unfolding state_behind
first_states = refl

-- a seed counts modulo 2^32
large_seed : state_behind 4_294_967_303 1 ≡ 1_025_555_898
unfolding state_behind
large_seed = refl

fuels_of_seed_7 : fuels 7 ≡ unnamed (heads.Fuel 1) (348 ∷ 0 ∷ []) ∷ unnamed (heads.Fuel 2) (0 ∷ 666 ∷ []) ∷ []
unfolding draw state_behind
fuels_of_seed_7 = refl

plant_of_seed_7 : plant 7 1 ≡ named (heads.Plant 1) (codes "P1") (1 ∷ 25 ∷ 50 ∷ 2750 ∷ 2550 ∷ 2 ∷ 100 ∷ 200 ∷ 384 ∷ 457 ∷ [])
unfolding draw state_behind
plant_of_seed_7 = refl

candidate_of_seed_7 : thermal 7 2 ≡ named (heads.Thermal 2) (codes "T2") (4 ∷ 27 ∷ 54 ∷ 2699 ∷ 2499 ∷ 2 ∷ 100 ∷ 200 ∷ 497 ∷ 784 ∷ 1341 ∷ 1341 ∷ 10 ∷ 25 ∷ [])
unfolding draw state_behind
candidate_of_seed_7 = refl

water_of_seed_7 : water 7 2 2 ≡ unnamed (heads.Water 1 1 2) (10 ∷ 20 ∷ 37_287 ∷ 8 ∷ 20 ∷ 10_997 ∷ [])
unfolding draw state_behind
water_of_seed_7 = refl

load_of_seed_7 : load 7 2 3 ≡ unnamed (heads.Load 3) (236 ∷ 1 ∷ 246 ∷ 1 ∷ [])
unfolding draw state_behind
load_of_seed_7 = refl

tunnel_of_year_9 : tunnel 2 9 ≡ unnamed (heads.Tunnel 1 9) (1 ∷ 1 ∷ 1 ∷ 1 ∷ 0 ∷ 0 ∷ [])
unfolding first
tunnel_of_year_9 = refl

-- the last two statements of 28
last_two : drop 26 (trial 7 3 2) ≡ tunnel 2 2 ∷ tunnel 2 3 ∷ []
unfolding trial first
last_two = refl
