-- The tunnel of a case in a year of a deck that meets no row is within the greatest counts.
use Rattle.std.proofs.Common.{◌≡◌, ℕ, zero, suc, ◌+◌, ◌-◌, ◌*◌, ◌<◌, ◌≤◌, ◌==◌, ◌&&◌, ◌||◌, true, false, List, length, slice_index, subst, arith, ⊎_elim}
use Rattle.std.proofs.lemmas.Bool.{cases_Bool, cases_lt, ltb-false, not-false, or_parts}
use Rattle.std.proofs.lemmas.List.{get_or_past}
use Rattle.std.proofs.lemmas.List.FromFn.{get_or-map-range_with_len, length-map-range_with_len}
use Rattle.deck_lines.specs.Deck.{body_of}
use Rattle.deck_lines.specs.declared.head.Head.{Head}
use Rattle.deck_lines.specs.declared.head.Head.TheVariants as heads
use Rattle.deck_lines.specs.declared.statement.Statement.{Statement}
use Rattle.deck_check.specs.DeckFault.{is_high, stated}
use Rattle.deck_check.specs.FaultTable.{upto}
use Rattle.deck_check.specs.Readings.{Says, cases, greatest, is_absent, is_there, number, width, years}
use Rattle.checked_deck.specs.TypedDeck.{IsTyped, counts_in, tunnel, year_of}
use Rattle.plant_data.specs.Tunnels.{IsTunnelOf}
use Rattle.checked_deck.proofs.Sound.{IsSound, in_upto, row_at, sound_is, stated_fails, unmet_three, unmet_two}

-- the year whose statement holds, where year 1 has one
pub record Holds (d : Says) (head : ℕ → Head) (t year : ℕ) : Type 0 where
  pub low : 1 ≤ year
  pub high : year ≤ t
  pub there : is_there d (head year) ≡ true

later : (d : Says) (head : ℕ → Head) (t year : ℕ) → Holds d head t year → Holds d head (suc t) year
later d head t year h = record { low = h.low; high = omega (arith, h.high); there = h.there }

at_first : (d : Says) (head : ℕ → Head) (t : ℕ) → is_there d (head 1) ≡ true → is_there d (head (suc t)) ≡ false → t ≡ 0 → ⊥
at_first d head t one absent e = let at : is_there d (head 1) ≡ false = rw e at absent in cc

pub year_holds : (d : Says) (head : ℕ → Head) (t : ℕ) → is_there d (head 1) ≡ true → 1 ≤ t → Holds d head t (year_of d head t)
year_holds d head zero one low = absurd (omega arith)
year_holds d head (suc t) one low =
    ⊎_elim
    (λ there. rw there (let h : Holds d head (suc t) (suc t) = record { low = omega arith; high = omega arith; there = there } in h))
    (λ absent. rw absent (⊎_elim (λ some. later d head t (year_of d head t) (year_holds d head t one some)) (λ none. absurd (at_first d head t one absent (omega (arith, none)))) (cases_lt 0 t)))
    (cases_Bool (is_there d (head (suc t))))

tunnel_there : (d : Says) → IsSound d → (c : ℕ) → 1 ≤ c → c ≤ cases d → is_there d (heads.Tunnel c 1) ≡ true
tunnel_there d s c low high =
    let fails = unmet_two 22 (upto (cases d)) (λ x. upto 3)
    (λ x b. ((b == 1) && is_absent d (heads.Tunnel x 1)) || ((b == 2) && is_absent d (heads.Margin x 1)) || ((b == 3) && is_absent d (heads.Lolp x 1)))
    (row_at d s 21 (omega arith)) c 1 (in_upto (cases d) c low high) (in_upto 3 1 (omega arith) (omega arith)) in
    let two = or_parts (((1 == 1) && is_absent d (heads.Tunnel c 1)) || ((1 == 2) && is_absent d (heads.Margin c 1))) ((1 == 3) && is_absent d (heads.Lolp c 1)) fails in
    not-false (is_there d (heads.Tunnel c 1)) (or_parts (is_absent d (heads.Tunnel c 1)) false two.0).0

counts : (d : Says) → IsSound d → (c t : ℕ) → 1 ≤ c → c ≤ cases d → 1 ≤ t → t ≤ years d → is_there d (heads.Tunnel c t) ≡ true → (k : ℕ) → k < width d → number d (heads.Tunnel c t) (2 * k) + number d (heads.Tunnel c t) (2 * k + 1) ≤ slice_index (greatest d) k
counts d s c t c1 c2 t1 t2 there k lt =
    let e : k + 1 - 1 ≡ k = omega arith in
    let fails = unmet_three 24 (upto (cases d)) (λ x. upto (years d)) (λ x y. upto (width d)) (λ x y z. stated d (heads.Tunnel x y) (is_high (slice_index (greatest d) (z - 1)) z)) (row_at d s 23 (omega arith)) c t (k + 1)
    (in_upto (cases d) c c1 c2) (in_upto (years d) t t1 t2) (in_upto (width d) (k + 1) (omega arith) (omega (arith, lt))) in
    let high = stated_fails d (heads.Tunnel c t) (is_high (slice_index (greatest d) (k + 1 - 1)) (k + 1)) fails there in
    subst (λ j. number d (heads.Tunnel c t) (2 * j) + number d (heads.Tunnel c t) (2 * j + 1) ≤ slice_index (greatest d) j) e
    (ltb-false (slice_index (greatest d) (k + 1 - 1)) (number d (heads.Tunnel c t) (2 * (k + 1 - 1)) + number d (heads.Tunnel c t) (2 * (k + 1 - 1) + 1)) high)

fits : (d : Says) (h : Head) → ((k : ℕ) → k < width d → number d h (2 * k) + number d h (2 * k + 1) ≤ slice_index (greatest d) k) → IsTunnelOf (greatest d) (record { least = counts_in d h 0; width = counts_in d h 1 })
fits d h most = record {
  least = length-map-range_with_len (λ k. number d h (2 * k + 0)) 0 (width d);
  width = length-map-range_with_len (λ k. number d h (2 * k + 1)) 0 (width d);
  most = λ k. ⊎_elim
      (λ lt. let e : 2 * k + 0 ≡ 2 * k = omega arith in
      let z : 0 + k ≡ k = omega arith in
      rw (get_or-map-range_with_len (λ j. number d h (2 * j + 0)) 0 (width d) k k 0 lt z, get_or-map-range_with_len (λ j. number d h (2 * j + 1)) 0 (width d) k k 0 lt z, e) (most k lt))
      (λ past. let a : length (counts_in d h 0) ≡ width d = length-map-range_with_len (λ j. number d h (2 * j + 0)) 0 (width d) in
      let b : length (counts_in d h 1) ≡ width d = length-map-range_with_len (λ j. number d h (2 * j + 1)) 0 (width d) in
      rw (get_or_past (counts_in d h 0) k 0 (omega (arith, a, past)), get_or_past (counts_in d h 1) k 0 (omega (arith, b, past))) (omega arith))
      (cases_lt k (width d));
}

pub tunnel_is : (deck : List Statement) (c t : ℕ) → IsTyped deck → 1 ≤ c → c ≤ cases (body_of deck) → 1 ≤ t → t ≤ years (body_of deck) → IsTunnelOf (greatest (body_of deck)) (tunnel (body_of deck) c t)
tunnel_is deck c t typed c1 c2 t1 t2 =
    let d = body_of deck in
    let s = sound_is deck typed in
    let h = year_holds d (heads.Tunnel c) t (tunnel_there d s c c1 c2) t1 in
    fits d (heads.Tunnel c (year_of d (heads.Tunnel c) t)) (counts d s c (year_of d (heads.Tunnel c) t) c1 c2 h.low (omega (arith, h.high, t2)) h.there)
