-- A trial deck's cases, candidates and capacities meet no row of the fault table.
use Rattle.std.proofs.Common.{◌≡◌, ℕ, zero, suc, ◌+◌, ◌-◌, ◌*◌, ◌/◌, ◌^◌, ◌≤◌, true, false, ◌&&◌, ◌==◌, map, get_or, Option, refl, subst, arith}
use Rattle.std.specs.Prelude.{nat_le, nat_lt, sum}
use Rattle.std.proofs.lemmas.Bool.{le-leb, lt-leb}
use Rattle.deck_lines.specs.Body.{BodyParts}
use Rattle.deck_lines.specs.declared.head.Head.TheVariants as heads
use Rattle.deck_check.specs.DeckFault as table
use Rattle.deck_check.specs.DeckFault.{is_bad_point}
use Rattle.deck_check.specs.FaultTable.{IsUnmet, is_in, upto}
use Rattle.deck_check.specs.Readings.{first, greatest, numbers_in, number, full, width, cases, units_in, units, capacity, peak}
use Rattle.deck_maker.specs.TrialDeck.{plant, plant_place, thermal, thermal_place}
use Rattle.deck_maker.proofs.Draws.{draw_below, is_drawn}
use Rattle.deck_maker.proofs.Reading.{says}
use Rattle.std.specs.List.{range_with_len}
use Rattle.std.proofs.lemmas.List.Sums.{sum_by-cons}
use Rattle.std.proofs.Math.Nat.{mul-le-mul_left, mul-le-mul_right}
use Rattle.year_system.specs.System.{size}
use Rattle.deck_maker.specs.TrialDeck.{load_place}
use Rattle.deck_maker.proofs.NoFault.{unmet, and_false, span_low, span_high, at_unit, if_known, none_gone}

-- ---- candidates and cases

some_candidate : (s y c : ℕ) → 1 ≤ c → c ≤ 6 → (width (says s y c) == 0) ≡ false
unfolding first
some_candidate s y zero low high = absurd (omega (arith, low))
some_candidate s y (suc zero) low high = refl
some_candidate s y (suc (suc zero)) low high = refl
some_candidate s y (suc (suc (suc zero))) low high = refl
some_candidate s y (suc (suc (suc (suc zero)))) low high = refl
some_candidate s y (suc (suc (suc (suc (suc zero))))) low high = refl
some_candidate s y (suc (suc (suc (suc (suc (suc zero)))))) low high = refl
some_candidate s y (suc (suc (suc (suc (suc (suc (suc c))))))) low high = absurd (omega (arith, high))

pub no_candidate : (s y c : ℕ) → 1 ≤ c → c ≤ 6 → IsUnmet (table.no_candidate (says s y c))
no_candidate s y c low high = unmet (table.no_candidate (says s y c)) (λ a b k p q r. some_candidate s y c low high)

few_codes : (s y c : ℕ) → 1 ≤ c → c ≤ 6 → nat_lt (2 ^ 50) (size (greatest (says s y c))) ≡ false
unfolding first
few_codes s y zero low high = absurd (omega (arith, low))
few_codes s y (suc zero) low high = refl
few_codes s y (suc (suc zero)) low high = refl
few_codes s y (suc (suc (suc zero))) low high = refl
few_codes s y (suc (suc (suc (suc zero)))) low high = refl
few_codes s y (suc (suc (suc (suc (suc zero))))) low high = refl
few_codes s y (suc (suc (suc (suc (suc (suc zero)))))) low high = refl
few_codes s y (suc (suc (suc (suc (suc (suc (suc c))))))) low high = absurd (omega (arith, high))

pub many_codes : (s y c : ℕ) → 1 ≤ c → c ≤ 6 → IsUnmet (table.many_codes (says s y c))
many_codes s y c low high = unmet (table.many_codes (says s y c)) (λ a b k p q r. few_codes s y c low high)

one_case : (s y c a : ℕ) → is_in (upto (cases (says s y c))) a ≡ true → 1 ≡ a
one_case s y c a h = omega (arith, span_low 1 1 a h, span_high 1 1 a h)

first_case : (s y c b k : ℕ) → 1 ≤ y → (table.no_case (says s y c)).holds 1 b k ≡ false
first_case s y c b k h = rw (le-leb 1 y h, and_false (b == 1), and_false (b == 2), and_false (b == 3)) refl

pub no_case : (s y c : ℕ) → 1 ≤ y → IsUnmet (table.no_case (says s y c))
no_case s y c h = unmet (table.no_case (says s y c)) (λ a b k p q r. subst (λ (x : ℕ). (table.no_case (says s y c)).holds x b k ≡ false) (one_case s y c a p) (first_case s y c b k h))

tunnel_count_at : (s y c b k : ℕ) → 1 ≤ c → c ≤ 6 → is_in (upto y) b ≡ true → (table.tunnel_count (says s y c)).holds 1 b k ≡ false
unfolding first
tunnel_count_at s y zero b k low high q = absurd (omega (arith, low))
tunnel_count_at s y (suc zero) b k low high q = rw q refl
tunnel_count_at s y (suc (suc zero)) b k low high q = rw q refl
tunnel_count_at s y (suc (suc (suc zero))) b k low high q = rw q refl
tunnel_count_at s y (suc (suc (suc (suc zero)))) b k low high q = rw q refl
tunnel_count_at s y (suc (suc (suc (suc (suc zero))))) b k low high q = rw q refl
tunnel_count_at s y (suc (suc (suc (suc (suc (suc zero)))))) b k low high q = rw q refl
tunnel_count_at s y (suc (suc (suc (suc (suc (suc (suc c))))))) b k low high q = absurd (omega (arith, high))

pub tunnel_count : (s y c : ℕ) → 1 ≤ c → c ≤ 6 → IsUnmet (table.tunnel_count (says s y c))
tunnel_count s y c low high = unmet (table.tunnel_count (says s y c)) (λ a b k p q r. subst (λ (x : ℕ). (table.tunnel_count (says s y c)).holds x b k ≡ false) (one_case s y c a p) (tunnel_count_at s y c b k low high q))

rises_slowly : (b : ℕ) → b ≤ 30 → nat_lt 4 ((b - 1) / 8 + 1) ≡ false
rises_slowly b h = lt-leb 5 ((b - 1) / 8 + 1) (omega (arith, h))

high_1 : (s y b k : ℕ) → b ≤ 30 → is_in (upto y) b ≡ true → is_in (upto 2) k ≡ true → (table.tunnel_high (says s y 1)).holds 1 b k ≡ false
unfolding first
high_1 s y b zero l q r = absurd (omega (arith, span_low 1 2 zero r))
high_1 s y b (suc zero) l q r = rw (q, rises_slowly b l) refl
high_1 s y b (suc (suc zero)) l q r = rw q refl
high_1 s y b (suc (suc (suc k))) l q r = absurd (omega (arith, span_high 1 2 (suc (suc (suc k))) r))

high_2 : (s y b k : ℕ) → b ≤ 30 → is_in (upto y) b ≡ true → is_in (upto 3) k ≡ true → (table.tunnel_high (says s y 2)).holds 1 b k ≡ false
unfolding first
high_2 s y b zero l q r = absurd (omega (arith, span_low 1 3 zero r))
high_2 s y b (suc zero) l q r = rw (q, rises_slowly b l) refl
high_2 s y b (suc (suc zero)) l q r = rw (q, rises_slowly b l) refl
high_2 s y b (suc (suc (suc zero))) l q r = rw q refl
high_2 s y b (suc (suc (suc (suc k)))) l q r = absurd (omega (arith, span_high 1 3 (suc (suc (suc (suc k)))) r))

high_3 : (s y b k : ℕ) → b ≤ 30 → is_in (upto y) b ≡ true → is_in (upto 4) k ≡ true → (table.tunnel_high (says s y 3)).holds 1 b k ≡ false
unfolding first
high_3 s y b zero l q r = absurd (omega (arith, span_low 1 4 zero r))
high_3 s y b (suc zero) l q r = rw (q, rises_slowly b l) refl
high_3 s y b (suc (suc zero)) l q r = rw (q, rises_slowly b l) refl
high_3 s y b (suc (suc (suc zero))) l q r = rw (q, rises_slowly b l) refl
high_3 s y b (suc (suc (suc (suc zero)))) l q r = rw q refl
high_3 s y b (suc (suc (suc (suc (suc k))))) l q r = absurd (omega (arith, span_high 1 4 (suc (suc (suc (suc (suc k))))) r))

high_4 : (s y b k : ℕ) → b ≤ 30 → is_in (upto y) b ≡ true → is_in (upto 5) k ≡ true → (table.tunnel_high (says s y 4)).holds 1 b k ≡ false
unfolding first
high_4 s y b zero l q r = absurd (omega (arith, span_low 1 5 zero r))
high_4 s y b (suc zero) l q r = rw (q, rises_slowly b l) refl
high_4 s y b (suc (suc zero)) l q r = rw (q, rises_slowly b l) refl
high_4 s y b (suc (suc (suc zero))) l q r = rw (q, rises_slowly b l) refl
high_4 s y b (suc (suc (suc (suc zero)))) l q r = rw (q, rises_slowly b l) refl
high_4 s y b (suc (suc (suc (suc (suc zero))))) l q r = rw q refl
high_4 s y b (suc (suc (suc (suc (suc (suc k)))))) l q r = absurd (omega (arith, span_high 1 5 (suc (suc (suc (suc (suc (suc k)))))) r))

high_5 : (s y b k : ℕ) → b ≤ 30 → is_in (upto y) b ≡ true → is_in (upto 6) k ≡ true → (table.tunnel_high (says s y 5)).holds 1 b k ≡ false
unfolding first
high_5 s y b zero l q r = absurd (omega (arith, span_low 1 6 zero r))
high_5 s y b (suc zero) l q r = rw (q, rises_slowly b l) refl
high_5 s y b (suc (suc zero)) l q r = rw (q, rises_slowly b l) refl
high_5 s y b (suc (suc (suc zero))) l q r = rw (q, rises_slowly b l) refl
high_5 s y b (suc (suc (suc (suc zero)))) l q r = rw (q, rises_slowly b l) refl
high_5 s y b (suc (suc (suc (suc (suc zero))))) l q r = rw (q, rises_slowly b l) refl
high_5 s y b (suc (suc (suc (suc (suc (suc zero)))))) l q r = rw q refl
high_5 s y b (suc (suc (suc (suc (suc (suc (suc k))))))) l q r = absurd (omega (arith, span_high 1 6 (suc (suc (suc (suc (suc (suc (suc k))))))) r))

high_6 : (s y b k : ℕ) → b ≤ 30 → is_in (upto y) b ≡ true → is_in (upto 7) k ≡ true → (table.tunnel_high (says s y 6)).holds 1 b k ≡ false
unfolding first
high_6 s y b zero l q r = absurd (omega (arith, span_low 1 7 zero r))
high_6 s y b (suc zero) l q r = rw (q, rises_slowly b l) refl
high_6 s y b (suc (suc zero)) l q r = rw (q, rises_slowly b l) refl
high_6 s y b (suc (suc (suc zero))) l q r = rw (q, rises_slowly b l) refl
high_6 s y b (suc (suc (suc (suc zero)))) l q r = rw (q, rises_slowly b l) refl
high_6 s y b (suc (suc (suc (suc (suc zero))))) l q r = rw (q, rises_slowly b l) refl
high_6 s y b (suc (suc (suc (suc (suc (suc zero)))))) l q r = rw (q, rises_slowly b l) refl
high_6 s y b (suc (suc (suc (suc (suc (suc (suc zero))))))) l q r = rw q refl
high_6 s y b (suc (suc (suc (suc (suc (suc (suc (suc k)))))))) l q r = absurd (omega (arith, span_high 1 7 (suc (suc (suc (suc (suc (suc (suc (suc k)))))))) r))

tunnel_high_at : (s y c b k : ℕ) → 1 ≤ c → c ≤ 6 → b ≤ 30 → is_in (upto y) b ≡ true → is_in (upto (width (says s y c))) k ≡ true → (table.tunnel_high (says s y c)).holds 1 b k ≡ false
unfolding first
tunnel_high_at s y zero b k low high l q r = absurd (omega (arith, low))
tunnel_high_at s y (suc zero) b k low high l q r = high_1 s y b k l q r
tunnel_high_at s y (suc (suc zero)) b k low high l q r = high_2 s y b k l q r
tunnel_high_at s y (suc (suc (suc zero))) b k low high l q r = high_3 s y b k l q r
tunnel_high_at s y (suc (suc (suc (suc zero)))) b k low high l q r = high_4 s y b k l q r
tunnel_high_at s y (suc (suc (suc (suc (suc zero))))) b k low high l q r = high_5 s y b k l q r
tunnel_high_at s y (suc (suc (suc (suc (suc (suc zero)))))) b k low high l q r = high_6 s y b k l q r
tunnel_high_at s y (suc (suc (suc (suc (suc (suc (suc c))))))) b k low high l q r = absurd (omega (arith, high))

pub tunnel_high : (s y c : ℕ) → y ≤ 30 → 1 ≤ c → c ≤ 6 → IsUnmet (table.tunnel_high (says s y c))
tunnel_high s y c years low high =
    unmet (table.tunnel_high (says s y c))
    (λ a b k p q r. subst (λ (x : ℕ). (table.tunnel_high (says s y c)).holds x b k ≡ false) (one_case s y c a p) (tunnel_high_at s y c b k low high (omega (arith, years, span_high 1 y b q)) q r))

-- ---- what a year can take

sum_within : (f : ℕ → ℕ) (m : ℕ) → ((p : ℕ) → f p ≤ m) → (a n : ℕ) → sum (map f (range_with_len a n)) ≤ n * m
sum_within f m h a zero = omega arith
sum_within f m h a (suc n) =
    let e : sum (map f (range_with_len a (suc n))) ≡ f a + sum (map f (range_with_len (a + 1) n)) = sum_by-cons (λ (x : ℕ). x) (f a) (map f (range_with_len (a + 1) n)) in
    omega (arith, e, h a, sum_within f m h (a + 1) n)

first_within : (f : ℕ → ℕ) (m n : ℕ) → ((p : ℕ) → f p ≤ m) → sum (map f (first n)) ≤ n * m
unfolding first
first_within f m n h = sum_within f m h 1 n

abbrev HasAtMost : ℕ → ℕ → Option BodyParts → Type 0
HasAtMost i most o = get_or (numbers_in o) i 0 ≤ most

full_within : (s y c a : ℕ) → full (says s y c) a ≤ 79
full_within s y c a =
    at_unit s y c (HasAtMost 2 79) (omega arith) (λ p. (is_drawn s (plant_place p) 30 (omega arith) (omega arith)).large) (λ k. (is_drawn s (thermal_place k) 40 (omega arith) (omega arith)).large) a

standing : (s y c p : ℕ) → number (says s y c) (heads.Plant p) 0 ≤ 1
standing s y c p = if_known (HasAtMost 0 1) (nat_le 1 p && nat_le p 6) (plant s p).body (omega arith) (omega arith)

to_build : (s y c k : ℕ) → number (says s y c) (heads.Thermal k) 0 ≤ 4
to_build s y c k = if_known (HasAtMost 0 4) (nat_le 1 k && nat_le k c) (thermal s k).body (omega arith) (omega arith)

units_in_within : (s y c t p : ℕ) → units_in (says s y c) p t ≤ 1
units_in_within s y c t p =
    let none : sum (map (λ (u : ℕ). number (says s y c) (heads.Add p u) 0) (first t)) ≡ 0 = none_gone (first t) in
    omega (arith, standing s y c p, none)

units_within : (s y c t : ℕ) → units (says s y c) t ≤ 88
units_within s y c t =
    omega (
      arith,
      first_within (λ (p : ℕ). units_in (says s y c) p t) 1 40 (units_in_within s y c t),
      first_within (λ (k : ℕ). number (says s y c) (heads.Thermal k) 0) 4 12 (to_build s y c),
    )

pub many_units : (s y c : ℕ) → IsUnmet (table.many_units (says s y c))
many_units s y c =
    unmet (table.many_units (says s y c))
    (λ t n k p q r. lt-leb 129 n (omega (arith, units_within s y c t, span_high (units (says s y c) t) (units (says s y c) t) n q)))

product : (u v m n : ℕ) → u ≤ m → v ≤ n → u * v ≤ m * n
product u v m n h k = omega (arith, mul-le-mul_left u k, mul-le-mul_right n h)

capacity_within : (s y c t : ℕ) → capacity (says s y c) t ≤ 6952
capacity_within s y c t =
    omega (
      arith,
      first_within (λ (p : ℕ). units_in (says s y c) p t * full (says s y c) p) 79 40 (λ p. product (units_in (says s y c) p t) (full (says s y c) p) 1 79 (units_in_within s y c t p) (full_within s y c p)),
      first_within (λ (k : ℕ). number (says s y c) (heads.Thermal k) 0 * full (says s y c) (40 + k)) 316 12 (λ k. product (number (says s y c) (heads.Thermal k) 0) (full (says s y c) (40 + k)) 4 79 (to_build s y c k) (full_within s y c (40 + k))),
    )

peak_within : (s y c t : ℕ) → y ≤ 30 → is_in (upto y) t ≡ true → peak (says s y c) t ≤ 654
peak_within s y c t years q =
    rw q (omega (arith, years, span_high 1 y t q, draw_below s (load_place c t) 20 (omega arith), draw_below s (load_place c t + 1) 20 (omega arith)))

pub power : (s y c : ℕ) → y ≤ 30 → IsUnmet (table.power (says s y c))
power s y c years =
    unmet (table.power (says s y c))
    (λ t n k p q r.
    let few : n ≤ 7606 = omega (arith, capacity_within s y c t, peak_within s y c t years p, span_high (capacity (says s y c) t + peak (says s y c) t) (capacity (says s y c) t + peak (says s y c) t) n q) in
    rw (lt-leb 65_536 n (omega (arith, few)), lt-leb 400_001 n (omega (arith, few))) refl)
