-- Numbers as words of a line.
use Rattle.std.proofs.Common.{◌≡◌, ℕ, ◌^◌, ◌<◌, ◌≤◌, true, ◌&&◌, List, length, Some, arith}
use Rattle.std.specs.Prelude.{nat_le, decimal}
use Rattle.std.proofs.lemmas.Bool.Decides.{nat_tests}
use Rattle.std.proofs.lemmas.Fmt.{decimal_nonempty, length-decimal-le}
use Rattle.deck_lines.specs.Words.{number_after, number_of}
use Rattle.deck_lines.proofs.Texts.{IsPlain, spells}

-- numbers of at most 18 digits are read back
pub digits_back : (n : ℕ) → n < 10 ^ 18 → number_of (decimal n) ≡ Some n
digits_back n h =
    let few : length (decimal n) ≤ 18 = length-decimal-le 18 n (omega arith) h (omega (arith, h)) in
    let some : 0 < length (decimal n) = decimal_nonempty n (omega (arith, h)) in
    spelled (decimal n) n (omega (arith, some)) few ((spells n (omega (arith, h))).value)
  where
    spelled : (ds : List ℕ) (n : ℕ) → 1 ≤ length ds → length ds ≤ 18 → number_after 0 ds ≡ Some n → number_of ds ≡ Some n
    spelled ds n low high e = let t : (nat_le 1 (length ds) && nat_le (length ds) 18) ≡ true = grind (arith, nat_tests) in rw t e

pub digits_plain : (n : ℕ) → n < 2 ^ 64 → IsPlain (decimal n)
digits_plain n h = record { some = decimal_nonempty n h; bytes = (spells n h).bytes }

pub digits_few : (n : ℕ) → n < 2 ^ 64 → length (decimal n) ≤ 20
digits_few n h = length-decimal-le 20 n (omega arith) (omega (arith, h)) h
