-- Lemmas on the area below a curve.
use Rattle.std.proofs.Common.{◌≡◌, ℕ, ◌+◌, ◌-◌, ◌<◌, ◌≤◌, List, take, refl, sym, ◌∙◌, arith, sum, zero, suc, map, min, inl, inr}
use Rattle.std.specs.List.{range_with_len}
use Rattle.std.proofs.lemmas.List.{get_or-take, get_or_past, length-take}
use Rattle.std.proofs.lemmas.List.FromFn.{sum_by-map-range_with_len_more}
use Rattle.std.proofs.lemmas.Bool.{cases_lt}
use Rattle.wasp_fixed.specs.Curves.{area, cell}

-- the sum of n values
abbrev run : (ℕ → ℕ) → ℕ → ℕ → ℕ
run curve from n = sum (map curve (range_with_len from n))

run-more : (curve : ℕ → ℕ) (from n : ℕ) → run curve from (suc n) ≡ run curve from n + curve (from + n)
run-more curve from n =
    let e : n + 1 ≡ suc n = omega arith in
    rw e at (sum_by-map-range_with_len_more (λ x. x) curve from n (from + n) refl)

-- one value more
pub area-more : (curve : ℕ → ℕ) (from to : ℕ) → from ≤ to → area curve from (to + 1) ≡ area curve from to + curve to
area-more curve from to h =
    let e : to + 1 - from ≡ suc (to - from) = omega arith in
    let f : from + (to - from) ≡ to = omega arith in
    rw e (rw f at (run-more curve from (to - from)))

-- two curves that agree where the sum goes
run-same : (f g : ℕ → ℕ) (from n : ℕ) → ((x : ℕ) → x < from + n → f x ≡ g x) → run f from n ≡ run g from n
run-same f g from zero h = refl
run-same f g from (suc n) h =
    let e = run-same f g from n (λ x lt. h x (omega arith)) in
    let v : f (from + n) ≡ g (from + n) = h (from + n) (omega arith) in
    omega (arith, run-more f from n, run-more g from n, e, v)

-- past the end nothing is added
run-past : (f : ℕ → ℕ) (from len n : ℕ) → from ≤ len → ((x : ℕ) → len ≤ x → f x ≡ 0) → run f from (len - from + n) ≡ run f from (len - from)
run-past f from len zero h z = let e : len - from + 0 ≡ len - from = omega arith in rw e
run-past f from len (suc n) h z =
    let e : len - from + suc n ≡ suc (len - from + n) = omega arith in
    let v : f (from + (len - from + n)) ≡ 0 = z (from + (len - from + n)) (omega arith) in
    rw e (omega (arith, run-more f from (len - from + n), run-past f from len n h z, v))

from_none : (f : ℕ → ℕ) (from n : ℕ) → ((x : ℕ) → from ≤ x → f x ≡ 0) → run f from n ≡ 0
from_none f from zero z = refl
from_none f from (suc n) z =
    let v : f (from + n) ≡ 0 = z (from + n) (omega arith) in
    omega (arith, run-more f from n, from_none f from n z, v)

-- the sum may stop where the curve ends
clipped : (f g : ℕ → ℕ) (used from to a b : ℕ) → from ≤ to → b ≡ min to used → a ≡ min from b → ((x : ℕ) → x < used → f x ≡ g x) → ((x : ℕ) → used ≤ x → g x ≡ 0) → run f a (b - a) ≡ run g from (to - from)
clipped f g used from to a b h eb ea same past =
    elim (cases_lt used to) [
      | inl lt ↦ elim (cases_lt used from) [
        | inl none ↦
            let e : b - a ≡ 0 = omega arith in
            rw e (sym (from_none g from (to - from) (λ x le. past x (omega arith))))
        | inr some ↦
            let e : b - a ≡ used - from = omega arith in
            let d : a ≡ from = omega arith in
            let all : used - from + (to - used) ≡ to - from = omega arith in
            rw (e, d) (run-same f g from (used - from) (λ x le. same x (omega arith)) ∙ sym (rw all at (run-past g from used (to - used) some past)))
      ]
      | inr within ↦
          let e : b - a ≡ to - from = omega arith in
          let d : a ≡ from = omega arith in
          rw (e, d) (run-same f g from (to - from) (λ x le. same x (omega arith)))
    ]

pub area-clipped : (held : List ℕ) (used from to : ℕ) → from ≤ to → area (cell held) (min from (min to used)) (min to used) ≡ area (cell (take used held)) from to
area-clipped held used from to h =
    clipped (cell held) (cell (take used held)) used from to _ _ h refl refl
    (λ x lt. sym (get_or-take used held x 0 lt))
    (λ x le. get_or_past (take used held) x 0 (omega (arith, length-take {A = ℕ})))
