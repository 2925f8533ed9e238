-- Bits of the words of a sieve.
use Rattle.std.proofs.Common.{◌≡◌, ℕ, ◌+◌, ◌-◌, ◌*◌, ◌%◌, ◌^◌, ◌<◌, ◌≤◌, List, set, length, get_or, min, max, bit_and, bit_or, w64, sym, ap, ◌∙◌, arith, subst, ⊎_elim}
use Rattle.std.proofs.lemmas.Bool.{cases_eq, cases_lt}
use Rattle.std.proofs.lemmas.List.{get_or-set_other, get_or-set_same, get_or_past, length-set}
use Rattle.std.proofs.lemmas.Nat.Bits.{bit_at-lt, bit_at-trailing_zeros, bit_at-zero, bit_at_and, bit_at_mask_below, bit_at_mask_inside, bit_at_or, bit_at_set_same, ones_shl}
use Rattle.std.proofs.lemmas.Nat.{and_le_l}
use Rattle.std.specs.Int.{bit_at, trailing_zeros}
use Rattle.plant_data.specs.Configs.{IsAtMost}
use Rattle.plan_program.specs.Sieve.{HasBit, IsBlock}
use Rattle.plan_program.specs.Starts.{start_at}
use Rattle.plan_program.specs.declared.come.Start.{Start}

max_first : (x y : ℕ) → x ≡ 1 → y < 2 → max x y ≡ 1
max_first x y h b = omega (arith, h, b)

max_second : (x y : ℕ) → x < 2 → y ≡ 1 → max x y ≡ 1
max_second x y b h = omega (arith, h, b)

min_both : (x y : ℕ) → x ≡ 1 → y ≡ 1 → min x y ≡ 1
min_both x y h g = omega (arith, h, g)

min_none : (x y : ℕ) → min x y ≡ 0 → y ≡ 1 → x ≡ 0
min_none x y h g = omega (arith, h, g)

pub or_first : (a b i : ℕ) → bit_at a i ≡ 1 → bit_at (bit_or a b) i ≡ 1
or_first a b i h = bit_at_or a b i ∙ max_first (bit_at a i) (bit_at b i) h (bit_at-lt b i)

pub or_second : (a b i : ℕ) → bit_at b i ≡ 1 → bit_at (bit_or a b) i ≡ 1
or_second a b i h = bit_at_or a b i ∙ max_second (bit_at a i) (bit_at b i) (bit_at-lt a i) h

pub and_both : (a b i : ℕ) → bit_at a i ≡ 1 → bit_at b i ≡ 1 → bit_at (bit_and a b) i ≡ 1
and_both a b i h g = bit_at_and a b i ∙ min_both (bit_at a i) (bit_at b i) h g

-- one bit more is set
pub marks_more : (row : List ℕ) (at : ℕ → ℕ) (n : ℕ) → n < 64 → at n < length row → ((i : ℕ) → i < n → bit_at (get_or row (at i) 0) i ≡ 1) →
    (i : ℕ) → i < n + 1 → bit_at (get_or (set row (at n) (bit_or (get_or row (at n) 0) (1 * 2 ^ n % 18446744073709551616))) (at i) 0) i ≡ 1
marks_more row at n small within h i b =
    let word = bit_or (get_or row (at n) 0) (1 * 2 ^ n % 18446744073709551616) in
    ⊎_elim
    (λ (same : i ≡ n). rw same (rw (get_or-set_same row (at n) word 0 within) (bit_at_set_same w64 (get_or row (at n) 0) n small)))
    (λ other.
    let before : bit_at (get_or row (at i) 0) i ≡ 1 = h i (omega (arith, b, other)) in
    ⊎_elim
    (λ (here : at i ≡ at n). rw here (rw (get_or-set_same row (at n) word 0 within) (or_first (get_or row (at n) 0) (1 * 2 ^ n % 18446744073709551616) i (subst (λ k. bit_at (get_or row k 0) i ≡ 1) here before))))
    (λ there. rw (get_or-set_other row (at n) (at i) word 0 there) before)
    (cases_eq (at i) (at n)))
    (cases_eq i n)

-- the words before the nth have the bits of those before them
pub record AreSpread (old new : List ℕ) (n : ℕ) : Type 0 where
  pub counts : length new ≡ length old
  pub done : (u v i : ℕ) → u ≤ v → v < n → bit_at (get_or old u 0) i ≡ 1 → bit_at (get_or new v 0) i ≡ 1
  pub kept : (v : ℕ) → n ≤ v → get_or new v 0 ≡ get_or old v 0

pub spreads_more : (old new : List ℕ) (n : ℕ) → 1 ≤ n → n < length new → AreSpread old new n → AreSpread old (set new n (bit_or (get_or new n 0) (get_or new (n - 1) 0))) (n + 1)
spreads_more old new n some within h =
    let word = bit_or (get_or new n 0) (get_or new (n - 1) 0) in
    record {
      counts = length-set new n word ∙ h.counts;
      done = λ u v i b d e. ⊎_elim
          (λ (same : v ≡ n).
          rw same (rw (get_or-set_same new n word 0 within) (⊎_elim
          (λ (here : u ≡ n). or_first (get_or new n 0) (get_or new (n - 1) 0) i (rw (h.kept n (omega arith)) (subst (λ k. bit_at (get_or old k 0) i ≡ 1) here e)))
          (λ before. or_second (get_or new n 0) (get_or new (n - 1) 0) i (h.done u (n - 1) i (omega (arith, b, same, before, some)) (omega (arith, some)) e))
          (cases_eq u n))))
          (λ other. rw (get_or-set_other new n v word 0 other) (h.done u v i b (omega (arith, d, other)) e))
          (cases_eq v n);
      kept = λ v b. get_or-set_other new n v word 0 (λ same. omega (arith, b, same)) ∙ h.kept v (omega (arith, b));
    }

-- where the bits from a place on are none, or the first is at another place
pub rest_is : (skip : ℕ) → skip < 64 → 18446744073709551615 * 2 ^ skip % 18446744073709551616 ≡ 18446744073709551616 - 2 ^ skip
rest_is skip h = ones_shl 64 skip (omega (arith, h))

inside : (mask skip i : ℕ) → skip < 64 → skip ≤ i → i < 64 → bit_at (bit_and mask (18446744073709551615 * 2 ^ skip % 18446744073709551616)) i ≡ 0 → bit_at mask i ≡ 0
inside mask skip i small from within h =
    min_none (bit_at mask i) (bit_at (18446744073709551616 - 2 ^ skip) i) (sym (bit_at_and mask (18446744073709551616 - 2 ^ skip) i) ∙ subst (λ m. bit_at (bit_and mask m) i ≡ 0) (rest_is skip small) h) (bit_at_mask_inside skip 64 i from within)

pub none_left : (mask skip i : ℕ) → skip < 64 → bit_and mask (18446744073709551615 * 2 ^ skip % 18446744073709551616) ≡ 0 → skip ≤ i → i < 64 → bit_at mask i ≡ 0
none_left mask skip i small h from within = inside mask skip i small from within (ap (λ m. bit_at m i) h ∙ bit_at-zero i)

zero_one : (x : ℕ) → x ≡ 0 → x ≡ 1 → ⊥
zero_one x h g = omega (arith, h, g)

min_zero : (x y : ℕ) → y ≡ 0 → min x y ≡ 0
min_zero x y h = omega (arith, h)

pub first_left : (mask skip : ℕ) → skip < 64 → mask < 18446744073709551616 → 0 < bit_and mask (18446744073709551615 * 2 ^ skip % 18446744073709551616) →
    (skip ≤ trailing_zeros w64 (bit_and mask (18446744073709551615 * 2 ^ skip % 18446744073709551616))) × ((i : ℕ) → skip ≤ i → i < trailing_zeros w64 (bit_and mask (18446744073709551615 * 2 ^ skip % 18446744073709551616)) → bit_at mask i ≡ 0)
first_left mask skip small fits some =
    let rest = bit_and mask (18446744073709551615 * 2 ^ skip % 18446744073709551616) in
    let at = bit_at-trailing_zeros w64 rest some (omega (arith, fits, and_le_l mask (18446744073709551615 * 2 ^ skip % 18446744073709551616))) in (
      ⊎_elim
          (λ (below : trailing_zeros w64 rest < skip).
          let none : bit_at rest (trailing_zeros w64 rest) ≡ 0 =
          subst (λ m. bit_at (bit_and mask m) (trailing_zeros w64 rest) ≡ 0) (sym (rest_is skip small)) (bit_at_and mask (18446744073709551616 - 2 ^ skip) (trailing_zeros w64 rest) ∙ min_zero (bit_at mask (trailing_zeros w64 rest)) (bit_at (18446744073709551616 - 2 ^ skip) (trailing_zeros w64 rest)) (bit_at_mask_below skip 64 (trailing_zeros w64 rest) below)) in
          absurd (zero_one (bit_at rest (trailing_zeros w64 rest)) none at.1))
          (λ h. h)
          (cases_lt (trailing_zeros w64 rest) skip),
      λ i from b. inside mask skip i small from (omega (arith, b, at.0)) (at.2 i b),
    )

-- a start that is at most a configuration has its bit in each of the configuration's words
pub at_most_count : (counts others : List ℕ) (k : ℕ) → IsAtMost counts others → get_or counts k 0 ≤ get_or others k 0
at_most_count counts others k g = ⊎_elim (λ within. g k within) (λ past. rw (get_or_past counts k 0 past) (omega arith)) (cases_lt k (length counts))

pub has_bits : (starts : List Start) (base : ℕ) (block : List (List ℕ)) (to : List ℕ) (i : ℕ) → IsBlock starts base (length to) block → i < 64 → base + i < length starts → IsAtMost (start_at starts (base + i)).standing.config to →
    (k : ℕ) → k < length block → get_or to k 0 < 129 → HasBit block to i k
has_bits starts base block to i h small within g k b most =
    (h.each k (omega (arith, b, h.rows))).each i (get_or to k 0) small within (at_most_count (start_at starts (base + i)).standing.config to k g) most

pub not_skipped : (mask i : ℕ) → bit_at mask i ≡ 0 → bit_at mask i ≡ 1 → ⊥
not_skipped mask i h g = zero_one (bit_at mask i) h g

-- no start from a place on is at most a configuration, up to another place
abbrev pub NoneFrom : List Start → List ℕ → ℕ → ℕ → Type 0
NoneFrom starts to from end = (i : ℕ) → from ≤ i → i < end → i < length starts → IsAtMost (start_at starts i).standing.config to → ⊥

pub none_more : (starts : List Start) (to : List ℕ) (from w bit : ℕ) → NoneFrom starts to from (64 * w) →
    ((j : ℕ) → max from (64 * w) - 64 * w ≤ j → j < bit → 64 * w + j < length starts → IsAtMost (start_at starts (64 * w + j)).standing.config to → ⊥) → NoneFrom starts to from (64 * w + bit)
none_more starts to from w bit front here i b d e g = ⊎_elim
    (λ before. front i b before e g)
    (λ (behind : 64 * w ≤ i).
    let at : 64 * w + (i - 64 * w) ≡ i = omega (arith, behind) in
    here (i - 64 * w) (omega (arith, b, behind)) (omega (arith, d, behind)) (omega (arith, at, e)) (subst (λ k. IsAtMost (start_at starts k).standing.config to) (sym at) g))
    (cases_lt i (64 * w))
