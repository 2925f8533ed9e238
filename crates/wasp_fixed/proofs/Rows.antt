-- Worked rows of the discount factors: a rate of 10 percent, and none.
use Rattle.std.proofs.Common.{◌≡◌, refl}
use Rattle.wasp_fixed.specs.Discounts.{end_factor, half_year, mid_factor, root_of}

one_year : end_factor 1000 1 ≡ 909090909
unfolding end_factor
one_year = refl

two_years : end_factor 1000 2 ≡ 826446280
unfolding end_factor
two_years = refl

half : half_year 1000 ≡ 953462589
unfolding half_year root_of end_factor
half = refl

middle_of_year_two : mid_factor 1000 1 ≡ 866784171
unfolding half_year root_of end_factor
middle_of_year_two = refl

nothing_is_lost_at_rate_0 : mid_factor 0 7 ≡ 1000000000
unfolding half_year root_of end_factor
nothing_is_lost_at_rate_0 = refl
