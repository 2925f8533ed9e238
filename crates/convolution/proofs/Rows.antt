-- Worked rows.
use Rattle.std.proofs.Common.{◌≡◌, ◌*◌, List, [], ◌∷◌, refl}
use Rattle.wasp_fixed.specs.Curves.{cell}
use Rattle.convolution.specs.EquivalentLoad.{Part, eq_step, equivalent_load}
use Rattle.convolution.specs.ExactLoad.{exact_load}

-- a unit of one cell that is out one ten-thousandth of the time, onto the cells 0 and 1
below_zero_is_one : eq_step (cell (0 ∷ 1 ∷ [])) 1 1 0 ≡ 100000
below_zero_is_one = refl

rounded_down : eq_step (cell (0 ∷ 1 ∷ [])) 1 1 1 ≡ 0
rounded_down = refl

past_the_end : eq_step (cell (0 ∷ 1 ∷ [])) 1 1 2 ≡ 0
past_the_end = refl

-- two units of one cell, out a tenth and a fifth of the time, below a flat load of one cell
two_units : List Part
two_units = record { capacity = 1; rate = 1000 } ∷ record { capacity = 1; rate = 2000 } ∷ []

one_is_out : equivalent_load (cell (1000000000 ∷ [])) two_units 1 ≡ 280000000
unfolding two_units
one_is_out = refl

both_are_out : equivalent_load (cell (1000000000 ∷ [])) two_units 2 ≡ 20000000
unfolding two_units
both_are_out = refl

exactly : exact_load (cell (1000000000 ∷ [])) two_units 2 ≡ 20000000 * 100000000
unfolding two_units
exactly = refl
