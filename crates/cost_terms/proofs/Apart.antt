-- The worth of an amount by its parts below and above ONE.
use Rattle.std.proofs.Common.{◌≡◌, ℕ, ◌+◌, ◌*◌, ◌/◌, ◌%◌, ◌≤◌, ◌∙◌, arith}
use Rattle.std.proofs.Math.Nat.{mul-le-mul}
use Rattle.std.proofs.lemmas.Nat.{div-add-mod'}
use Rattle.wasp_fixed.specs.declared.numbers.TheConstants.{ONE}

parts_worth : (q r p s w a : ℕ) → q * w + p * a + (r * w + s * a) / ONE ≡ ((q * ONE + r) * w + (p * ONE + s) * a) / ONE
parts_worth q r p s w a = omega arith

pub worth_apart : (d w f a : ℕ) → d / ONE * w + f / ONE * a + (d % ONE * w + f % ONE * a) / ONE ≡ (d * w + f * a) / ONE
worth_apart d w f a =
    let x = div-add-mod' d ONE in
    let y = div-add-mod' f ONE in
    parts_worth (d / ONE) (d % ONE) (f / ONE) (f % ONE) w a ∙ λ i. (x i * w + y i * a) / ONE

pub whole_part : (d w : ℕ) → d ≤ 2000000000000000 → w ≤ ONE → d / ONE * w ≤ 2000000 * ONE
whole_part d w h b = let few : d / ONE ≤ 2000000 = omega (arith, h) in mul-le-mul few b

pub rest_part : (d w : ℕ) → w ≤ ONE → d % ONE * w ≤ ONE * ONE
rest_part d w b = let few : d % ONE ≤ ONE = omega arith in mul-le-mul few b
