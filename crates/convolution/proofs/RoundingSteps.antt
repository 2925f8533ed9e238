-- One convolution more puts a curve at most one more below the exact load.
use Rattle.std.proofs.Common.{◌≡◌, ℕ, ◌+◌, ◌-◌, ◌*◌, ◌^◌, ◌<◌, ◌≤◌, List, [], ◌∷◌, ◌++◌, length, suc, All, append_assoc, append-nil, true, false, cond, ltb, refl, arith, lit<, length-append}
use Rattle.std.proofs.Math.Nat.{mul-div-le, lt-div-mul-add, mul-le-mul_left, pow-succ', le_refl}
use Rattle.std.proofs.lemmas.List.Elements.{All-head, All-tail}
use Rattle.wasp_fixed.specs.Curves.{before}
use Rattle.wasp_fixed.specs.declared.numbers.TheConstants.{ONE, M}
use Rattle.convolution.specs.EquivalentLoad.{Part, two_states, eq_step, equivalent_load}
use Rattle.convolution.specs.ExactLoad.{exact_step, exact_onto, exact_load, IsWithin}

-- one unit more at the end of the list
exact_onto-snoc : (n : ℕ) (curve : ℕ → ℕ) (parts : List Part) (part : Part) → exact_onto n curve (parts ++ part ∷ []) ≡ exact_step (n + length parts) (exact_onto n curve parts) part
exact_onto-snoc n curve [] part = let e : n + 0 ≡ n = omega arith in rw e refl
exact_onto-snoc n curve (first ∷ parts) part =
    let e : n + length (first ∷ parts) ≡ n + 1 + length parts = omega arith in
    rw e (exact_onto-snoc (n + 1) (exact_step n curve first) parts part)

exact_load-snoc : (base : ℕ → ℕ) (parts : List Part) (part : Part) → exact_load base (parts ++ part ∷ []) ≡ exact_step (length parts) (exact_load base parts) part
exact_load-snoc base parts part =
    let e : 0 + length parts ≡ length parts = omega arith in
    rw e at (exact_onto-snoc 0 base parts part)

length-snoc : (parts : List Part) (part : Part) → length (parts ++ part ∷ []) ≡ length parts + 1
length-snoc parts part = omega (arith, length-append parts (part ∷ []))

le_add : (a k : ℕ) → a ≤ a + k
le_add a k = omega arith

lt-le : {a b : ℕ} → a < b → a ≤ b
lt-le h = omega arith

-- a bound on both values bounds their mean
low : (keep rate p f o ef eo : ℕ) → p * f ≤ ef → p * o ≤ eo → p * (keep * f + rate * o) ≤ keep * ef + rate * eo
low keep rate p f o ef eo h i = omega (arith, mul-le-mul_left keep h, mul-le-mul_left rate i)

high : (keep rate p k f o ef eo : ℕ) → ef ≤ p * (f + k) → eo ≤ p * (o + k) → keep * ef + rate * eo ≤ p * (keep * f + rate * o) + p * ((keep + rate) * k)
high keep rate p k f o ef eo h i = omega (arith, mul-le-mul_left keep h, mul-le-mul_left rate i)

-- a bound on each value bounds the value before
before-low : (p b c : ℕ) (f g : ℕ → ℕ) (back x : ℕ) → p * b ≤ c → ((y : ℕ) → p * f y ≤ g y) → p * before b f back x ≤ before c g back x
before-low p b c f g back x h i =
    elim (ltb x back) as (λ t. p * cond t b (f (x - back)) ≤ cond t c (g (x - back))) [ true ↦ h | false ↦ i (x - back) ]

before-high : (p k b c : ℕ) (f g : ℕ → ℕ) (back x : ℕ) → c ≤ p * (b + k) → ((y : ℕ) → g y ≤ p * (f y + k)) → before c g back x ≤ p * (before b f back x + k)
before-high p k b c f g back x h i =
    elim (ltb x back) as (λ t. cond t c (g (x - back)) ≤ p * (cond t b (f (x - back)) + k)) [ true ↦ h | false ↦ i (x - back) ]

-- rounding down once, with m parts
floored-low : (m p t e q : ℕ) → m * q ≤ t → p * t ≤ e → m * p * q ≤ e
floored-low m p t e q h i = omega (arith, mul-le-mul_left p h)

floored-high : (m p k t e q : ℕ) → t ≤ q * m + m → e ≤ p * t + p * (m * k) → e ≤ m * p * (q + (k + 1))
floored-high m p k t e q h i = omega (arith, mul-le-mul_left p h)

pow-more : (n : ℕ) → M ^ (n + 1) ≡ M * M ^ n
pow-more n = let e : n + 1 ≡ suc n = omega arith in rw e (pow-succ' M n)

pub IsWithin-step : (curve next base : ℕ → ℕ) (part : Part) (parts : List Part) (k : ℕ) → part.rate ≤ M → ((x : ℕ) → next x ≡ eq_step curve part.capacity part.rate x) → IsWithin k curve base parts → IsWithin (k + 1) next base (parts ++ part ∷ [])
IsWithin-step curve next base part parts k r step within =
    let n : ℕ = length parts in
    let exact : ℕ → ℕ = exact_load base parts in
    let keep : ℕ = M - part.rate in
    let whole : keep + part.rate ≡ M = omega arith in
    record {
      not_above = λ x.
          let o : ℕ = before ONE curve part.capacity x in
          let eo : ℕ = before (M ^ n * ONE) exact part.capacity x in
          let h : M ^ n * o ≤ eo = before-low (M ^ n) ONE (M ^ n * ONE) curve exact part.capacity x (le_refl (M ^ n * ONE)) within.not_above in
          let l = low keep part.rate (M ^ n) (curve x) o (exact x) eo (within.not_above x) h in
          rw (exact_load-snoc base parts part, length-snoc parts part, pow-more n, step x) (floored-low M (M ^ n) (two_states part.rate (curve x) o) (exact_step n exact part x) _ (mul-div-le _ M) l);
      near = λ x.
          let o : ℕ = before ONE curve part.capacity x in
          let eo : ℕ = before (M ^ n * ONE) exact part.capacity x in
          let h : eo ≤ M ^ n * (o + k) = before-high (M ^ n) k ONE (M ^ n * ONE) curve exact part.capacity x (mul-le-mul_left (M ^ n) (le_add ONE k)) within.near in
          let l = rw whole at (high keep part.rate (M ^ n) k (curve x) o (exact x) eo (within.near x) h) in
          rw (exact_load-snoc base parts part, length-snoc parts part, pow-more n, step x) (floored-high M (M ^ n) k (two_states part.rate (curve x) o) (exact_step n exact part x) _ (lt-le (lt-div-mul-add (lit< tt))) l);
    }

-- the units of the rest of a list, where those before it are in the curve
IsWithin-onto : (base : ℕ → ℕ) (parts done : List Part) (curve : ℕ → ℕ) (k : ℕ) → All (λ part. part.rate ≤ M) parts → IsWithin k curve base done → IsWithin (k + length parts) (equivalent_load curve parts) base (done ++ parts)
IsWithin-onto base [] done curve k rates within =
    let e : k + 0 ≡ k = omega arith in
    rw (e, append-nil done) within
IsWithin-onto base (part ∷ parts) done curve k rates within =
    let e : k + length (part ∷ parts) ≡ k + 1 + length parts = omega arith in
    let a : (done ++ part ∷ []) ++ parts ≡ done ++ part ∷ parts = append_assoc done (part ∷ []) parts in
    let next = IsWithin-step curve (eq_step curve part.capacity part.rate) base part done k (All-head (λ p. p.rate ≤ M) part parts rates) (λ x. refl) within in
    rw (e, ← a) (IsWithin-onto base parts (done ++ part ∷ []) (eq_step curve part.capacity part.rate) (k + 1) (All-tail (λ p. p.rate ≤ M) part parts rates) next)

-- n units put the equivalent load at most n below the exact load
pub equivalent_load-IsWithin : (base : ℕ → ℕ) (parts : List Part) → All (λ part. part.rate ≤ M) parts → IsWithin (length parts) (equivalent_load base parts) base parts
equivalent_load-IsWithin base parts rates =
    let none : IsWithin 0 base base [] = record {
      not_above = λ x. omega arith;
      near = λ x. omega arith;
    } in
    let e : 0 + length parts ≡ length parts = omega arith in
    rw e at (IsWithin-onto base parts [] base 0 rates none)
