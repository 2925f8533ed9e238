-- Worked rows.
use Rattle.std.proofs.Common.{◌≡◌, List, [], ◌∷◌, refl}
use Rattle.plant_data.specs.declared.shape.Point.{Point}
use Rattle.load_curves.specs.LoadCurve.{load_curve}

-- a straight line from the whole of the time at no load to none of it at the peak
straight : List Point
straight = record { load = 0; share = 10000 } ∷ record { load = 10000; share = 0 } ∷ []

at_no_load : load_curve 3 1 straight 0 ≡ 1000000000
unfolding straight
at_no_load = refl

at_a_third : load_curve 3 1 straight 1 ≡ 666666667
unfolding straight
at_a_third = refl

at_the_peak : load_curve 3 1 straight 3 ≡ 0
unfolding straight
at_the_peak = refl

in_cells_of_ten : load_curve 30 10 straight 2 ≡ 333333334
unfolding straight
in_cells_of_ten = refl

-- the second point is at half the peak: its own cell is on the second line
bent : List Point
bent = record { load = 0; share = 10000 } ∷ record { load = 5000; share = 8000 } ∷ record { load = 10000; share = 1000 } ∷ []

at_a_point : load_curve 4 1 bent 2 ≡ 800000000
unfolding bent
at_a_point = refl

past_a_point : load_curve 4 1 bent 3 ≡ 450000000
unfolding bent
past_a_point = refl
