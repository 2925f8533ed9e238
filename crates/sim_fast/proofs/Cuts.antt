-- Curves with their ends cut, and a unit more behind a curve.
use Rattle.std.proofs.Common.{◌≡◌, ℕ, ◌+◌, ◌-◌, ◌*◌, ◌/◌, ◌<◌, ◌≤◌, List, length, take, sym, ap, ◌∙◌, arith, inl, inr, lit<, refl}
use Rattle.std.proofs.Math.Nat.{mul-le-mul_left, mul-add-div_right}
use Rattle.std.proofs.lemmas.Bool.{cases_lt}
use Rattle.std.proofs.lemmas.List.{get_or-take, get_or_past, length-take}
use Rattle.wasp_fixed.specs.declared.numbers.TheConstants.{M, ONE}
use Rattle.wasp_fixed.specs.Curves.{cell, IsAtMostOne, NeverRises}
use Rattle.convolution.proofs.Means.{two_states-div-le}
use Rattle.sim_fast.specs.Behind.{shifted_step}

-- a list that is a curve below `len`, where the curve is 0 from there on, may be cut where its zeros begin
pub cut : (out : List ℕ) (f : ℕ → ℕ) (used len : ℕ) → used ≤ len → ((x : ℕ) → x < len → cell out x ≡ f x) → ((x : ℕ) → used ≤ x → x < len → cell out x ≡ 0) → ((x : ℕ) → len ≤ x → f x ≡ 0) → (x : ℕ) → cell (take used out) x ≡ f x
cut out f used len h same zeros past x =
    elim (cases_lt x used) [
      | inl low ↦ get_or-take used out x 0 low ∙ same x (omega (arith, low, h))
      | inr high ↦
          get_or_past (take used out) x 0 (omega (arith, high, length-take used out))
          ∙ elim (cases_lt x len) [
            | inl in_len ↦ sym (zeros x high in_len) ∙ same x in_len
            | inr out_len ↦ sym (past x out_len)
          ]
    ]

-- the same facts of a curve that is another one
pub falls-same : (f g : ℕ → ℕ) → ((x : ℕ) → f x ≡ g x) → NeverRises g → NeverRises f
falls-same f g same falls x y h = rw (same x, same y) (falls x y h)

pub most-same : (f g : ℕ → ℕ) → ((x : ℕ) → f x ≡ g x) → IsAtMostOne g → IsAtMostOne f
most-same f g same most x = rw (same x) (most x)

-- a step keeps them
means-order : (keep r a b c d : ℕ) → a ≤ c → b ≤ d → keep * a + r * b ≤ keep * c + r * d
means-order keep r a b c d h i = omega (arith, mul-le-mul_left keep h, mul-le-mul_left r i)

floors-order : (a b : ℕ) → a ≤ b → a / M ≤ b / M
floors-order a b h = omega (arith, h)

pub falls-step : (f : ℕ → ℕ) (c r : ℕ) → NeverRises f → NeverRises (shifted_step f c r)
falls-step f c r falls x y h = floors-order _ _ (means-order (M - r) r (f (y + c)) (f y) (f (x + c)) (f x) (falls (x + c) (y + c) (omega (arith, h))) (falls x y h))

pub most-step : (f : ℕ → ℕ) (c r : ℕ) → r ≤ M → IsAtMostOne f → IsAtMostOne (shifted_step f c r)
most-step f c r h most x = two_states-div-le r (f (x + c)) (f x) ONE h (most (x + c)) (most x)

-- past the end a step is 0
zero-mean : (keep r : ℕ) → (keep * 0 + r * 0) / M ≡ 0
zero-mean keep r = let e : keep * 0 + r * 0 ≡ 0 = omega arith in rw e refl

pub step-past : (f : ℕ → ℕ) (c r len : ℕ) → ((x : ℕ) → len ≤ x → f x ≡ 0) → (x : ℕ) → len ≤ x → shifted_step f c r x ≡ 0
step-past f c r len past x h = rw (past x h, past (x + c) (omega (arith, h))) (zero-mean (M - r) r)

pub cell-past : (cells : List ℕ) (x : ℕ) → length cells ≤ x → cell cells x ≡ 0
cell-past cells x h = get_or_past cells x 0 h

-- a unit that is always out changes nothing
always : (a b : ℕ) → 0 * a + M * b ≡ b * M + 0
always a b = omega arith

pub step-idle : (f : ℕ → ℕ) (c r x : ℕ) → r ≡ M → shifted_step f c r x ≡ f x
step-idle f c r x e = rw (e, always (f (x + c)) (f x)) (mul-add-div_right {m = M} (lit< tt) (f x) 0 ∙ (let z : f x + 0 ≡ f x = omega arith in z))

-- cells that are a beginning of others, which are zeros behind it
pub start-same : (start cells : List ℕ) (end : ℕ) → start ≡ take (length start) cells → end ≤ length start → ((x : ℕ) → end ≤ x → x < length cells → cell cells x ≡ 0) → (x : ℕ) → cell start x ≡ cell cells x
start-same start cells end e h zeros x =
    elim (cases_lt x (length start)) [
      | inl low ↦ ap (λ xs. cell xs x) e ∙ get_or-take (length start) cells x 0 low
      | inr high ↦
          cell-past start x high
          ∙ sym (elim (cases_lt x (length cells)) [
            | inl within ↦ zeros x (omega (arith, h, high)) within
            | inr past ↦ cell-past cells x past
          ])
    ]
