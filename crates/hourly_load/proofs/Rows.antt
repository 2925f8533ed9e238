-- Worked rows.
use Rattle.std.proofs.Common.{◌≡◌, ◌<◌, ◌≤◌, List, ℕ, zero, suc, [], ◌∷◌, ◌++◌, slice_index, refl, arith}
use Rattle.std.specs.Fmt.{digits}
use Rattle.std.specs.Prelude.{Err, Ok, codes}
use Rattle.deck_lines.specs.LineFault.{fault}
use Rattle.deck_lines.specs.declared.fault.LineKind.TheVariants as faults
use Rattle.plant_data.specs.declared.shape.Point.{Point}
use Rattle.hourly_load.specs.Hours.{IsHourly, above, gap}
use Rattle.hourly_load.specs.Lines.{load_line_of}
use Rattle.hourly_load.specs.Texts.{hourly_text}
use Rattle.hourly_load.specs.declared.line.LoadLine.TheVariants as lines

-- the megawatts below a peak of 3, one by one
below_3 : (P : ℕ → Type 0) → P 0 → P 1 → P 2 → (x : ℕ) → x < 3 → P x
below_3 P a b c zero h = a
below_3 P a b c (suc zero) h = b
below_3 P a b c (suc (suc zero)) h = c
below_3 P a b c (suc (suc (suc x))) h = absurd (omega (arith, h))

below_2 : (P : ℕ → Type 0) → P 0 → P 1 → (x : ℕ) → x < 2 → P x
below_2 P a b zero h = a
below_2 P a b (suc zero) h = b
below_2 P a b (suc (suc x)) h = absurd (omega (arith, h))

-- from all of the hours at no load to none at the peak
straight : List Point
straight = record { load = 0; share = 10000 } ∷ record { load = 10000; share = 0 } ∷ []

-- loads of 1, 2 and 3 MW: the curve meets the count at each megawatt
rising : List ℕ
rising = 1 ∷ 2 ∷ 3 ∷ []

rising_is : IsHourly rising 2 (record { peak = 3; points = straight; sum = 6; error = 0 })
unfolding rising straight
rising_is =
    let at_0 : gap rising 3 straight 0 ≡ 0 = refl in
    let at_1 : gap rising 3 straight 1 ≡ 0 = refl in
    let at_2 : gap rising 3 straight 2 ≡ 0 = refl in
    record {
      peak = record { bounds = below_3 (λ x. slice_index rising x ≤ 3) (omega arith) (omega arith) (omega arith); place = 2; within = omega arith; met = refl };
      shape = refl;
      sum = refl;
      error = record { bounds = below_3 (λ x. gap rising 3 straight x ≤ 0) (omega (arith, at_0)) (omega (arith, at_1)) (omega (arith, at_2)); place = 0; within = omega arith; met = refl };
    }

-- loads of 1 and 3 MW: half of the hours are above 1 and above 2 MW, and the curve is a sixth off at both
apart : List ℕ
apart = 1 ∷ 3 ∷ []

apart_is : IsHourly apart 2 (record { peak = 3; points = straight; sum = 4; error = 166666667 })
unfolding apart straight
apart_is =
    let at_0 : gap apart 3 straight 0 ≡ 0 = refl in
    let at_1 : gap apart 3 straight 1 ≡ 166666667 = refl in
    let at_2 : gap apart 3 straight 2 ≡ 166666666 = refl in
    record {
      peak = record { bounds = below_2 (λ x. slice_index apart x ≤ 3) (omega arith) (omega arith); place = 1; within = omega arith; met = refl };
      shape = refl;
      sum = refl;
      error = record { bounds = below_3 (λ x. gap apart 3 straight x ≤ 166666667) (omega (arith, at_0)) (omega (arith, at_1)) (omega (arith, at_2)); place = 1; within = omega arith; met = refl };
    }

-- no load is above its own megawatt
greater_alone : above rising 1 ≡ 2
unfolding rising
greater_alone = refl

text : hourly_text (record { peak = 3; points = straight; sum = 4; error = 166666667 }) ≡ codes "PEAK 3\nSHAPE 1 0 10000 10000 0\nMWH 4\nERROR 166666667\n"
unfolding digits straight
text = refl

-- ---- lines

a_load : load_line_of (codes " 0065535\r") ≡ Ok (lines.Load 65535)
unfolding load_line_of
a_load = refl

a_comment : load_line_of (codes "# 1979") ≡ Ok lines.Blank
unfolding load_line_of
a_comment = refl

the_end : load_line_of (codes "END") ≡ Ok lines.End
unfolding load_line_of
the_end = refl

out_of_range : load_line_of (codes " 65536 x") ≡ Err (fault faults.Range 2)
unfolding load_line_of
out_of_range = refl

another_word : load_line_of (codes "PLAN") ≡ Err (fault faults.Number 1)
unfolding load_line_of
another_word = refl

two_loads : load_line_of (codes "100 200") ≡ Err (fault faults.Count 5)
unfolding load_line_of
two_loads = refl

behind_end : load_line_of (codes "END 1") ≡ Err (fault faults.Count 5)
unfolding load_line_of
behind_end = refl

a_byte : load_line_of (codes "x \t" ++ 127 ∷ []) ≡ Err (fault faults.Byte 4)
unfolding load_line_of
a_byte = refl
