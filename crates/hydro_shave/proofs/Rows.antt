-- Worked rows.
use Rattle.std.proofs.Common.{◌≡◌, ℕ, ◌*◌, List, [], ◌∷◌, refl}
use Rattle.wasp_fixed.specs.Curves.{cell}
use Rattle.hydro_shave.specs.Hydro.{clip_level_of, shaved, shaved_energy, shifted}

-- a straight line of three cells, in a year of 8,760 hours
line : List ℕ
line = 1000000000 ∷ 666666667 ∷ 333333334 ∷ []

above_a_base_block : shifted (cell line) 2 0 ≡ 333333334
unfolding line
above_a_base_block = refl

whole_energy : shaved_energy (cell line) 1 8760 0 ≡ 8760 * 1000000000
unfolding line
whole_energy = refl

no_energy : clip_level_of (cell line) 1 0 8760 3 ≡ 3
unfolding line
no_energy = refl

short_by_one : clip_level_of (cell line) 1 8759 8760 3 ≡ 1
unfolding line
short_by_one = refl

an_exact_tie : clip_level_of (cell line) 1 8760 8760 3 ≡ 0
unfolding line
an_exact_tie = refl

kept_below_the_level : shaved (cell line) 1 1 0 ≡ 1000000000
unfolding line
kept_below_the_level = refl

shaved_from_the_level : shaved (cell line) 1 1 1 ≡ 333333334
unfolding line
shaved_from_the_level = refl
