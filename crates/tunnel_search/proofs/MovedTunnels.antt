-- The tunnel behind a round: it is the defined one, within the greatest counts, and contains the chosen configuration.
use Rattle.std.proofs.Common.{◌≡◌, ◌∙◌, ap, sym, refl, ℕ, zero, suc, ◌+◌, ◌<◌, ◌≤◌, Bool, true, false, List, length, map, set, take, slice_index, ⊎_elim, arith}
use Rattle.std.specs.List.{range_with_len}
use Rattle.std.proofs.lemmas.Bool.{and_parts, cases_lt, eqb-true, ltb-true}
use Rattle.std.proofs.lemmas.List.{length-set, take_all, take_more_set}
use Rattle.std.proofs.lemmas.List.FromFn.{get_or-map-range_with_len, length-map-range_with_len, map-range_with_len_more}
use Rattle.std.proofs.lemmas.List.{get_or_past}
use Rattle.plant_data.specs.Tunnels.{IsTunnelOf}
use Rattle.plant_data.specs.declared.row.Tunnel.{Tunnel}
use Rattle.report_text.specs.Marks.{is_lower, is_upper}
use Rattle.tunnel_configs.specs.Listed.{IsInTunnel}
use Rattle.tunnel_search.specs.Search.{moved_at, moved_pair, moved_tunnel}

-- ---- one candidate

-- what the marks say of a count
record Stands (upper lower : Bool) (least width greatest count : ℕ) : Type 0 where
  low : least ≤ count
  high : count ≤ least + width
  most : least + width ≤ greatest
  at_upper : upper ≡ true → (count ≡ least + width) × (count < greatest)
  at_lower : lower ≡ true → (count ≡ least) × (0 < count)

record Contained (pair : ℕ × ℕ) (greatest count : ℕ) : Type 0 where
  low : pair.0 ≤ count
  high : count ≤ pair.0 + pair.1
  most : pair.0 + pair.1 ≤ greatest

contained : (upper lower : Bool) (least width greatest count : ℕ) → Stands upper lower least width greatest count → Contained (moved_pair upper lower least width) greatest count
contained true true least width greatest count s =
    let up = s.at_upper refl in
    let down = s.at_lower refl in
    record { low = omega (arith, up, down); high = omega (arith, up, down); most = omega (arith, up, down) }
contained true false least zero greatest count s =
    let up = s.at_upper refl in
    record { low = omega (arith, s.low); high = omega (arith, s.high); most = omega (arith, up) }
contained true false least (suc width) greatest count s =
    let up = s.at_upper refl in
    record { low = omega (arith, up); high = omega (arith, up); most = omega (arith, up) }
contained false true least zero greatest count s =
    let down = s.at_lower refl in
    record { low = omega (arith, down); high = omega (arith, down); most = omega (arith, down, s.most) }
contained false true least (suc width) greatest count s =
    let down = s.at_lower refl in
    record { low = omega (arith, down); high = omega (arith, down); most = omega (arith, down, s.most) }
contained false false least width greatest count s = record { low = s.low; high = s.high; most = s.most }

contained_at : (greatest : List ℕ) (t : Tunnel) (counts : List ℕ) (k : ℕ) → IsTunnelOf greatest t → IsInTunnel t counts → k < length counts
    → Contained (moved_at greatest t counts k) (slice_index greatest k) (slice_index counts k)
contained_at greatest t counts k is within lt =
    let least = slice_index t.least k in
    let width = slice_index t.width k in
    let most = slice_index greatest k in
    let count = slice_index counts k in
    contained (is_upper least width most count) (is_lower least count) least width most count
    (record {
      low = (within.each k lt).0;
      high = (within.each k lt).1;
      most = is.most k;
      at_upper = λ e. let both = and_parts _ _ e in (eqb-true _ _ both.0, ltb-true _ _ both.1);
      at_lower = λ e. let both = and_parts _ _ e in (eqb-true _ _ both.0, ltb-true _ _ both.1);
    })

-- ---- all candidates

pub moved_fits : (greatest : List ℕ) (t : Tunnel) (counts : List ℕ) → IsTunnelOf greatest t → IsInTunnel t counts → IsTunnelOf greatest (moved_tunnel greatest t counts)
moved_fits greatest t counts is within =
    let m = moved_tunnel greatest t counts in
    let one : length m.least ≡ length counts = length-map-range_with_len (λ k. (moved_at greatest t counts k).0) 0 (length counts) in
    let other : length m.width ≡ length counts = length-map-range_with_len (λ k. (moved_at greatest t counts k).1) 0 (length counts) in
    record {
      least = one ∙ (within.width ∙ is.least);
      width = other ∙ (within.width ∙ is.least);
      most = λ k. ⊎_elim
          (λ lt.
          let low : slice_index m.least k ≡ (moved_at greatest t counts k).0 = get_or-map-range_with_len (λ k. (moved_at greatest t counts k).0) 0 (length counts) k k 0 lt (omega arith) in
          let wide : slice_index m.width k ≡ (moved_at greatest t counts k).1 = get_or-map-range_with_len (λ k. (moved_at greatest t counts k).1) 0 (length counts) k k 0 lt (omega arith) in
          let c = contained_at greatest t counts k is within lt in
          omega (arith, low, wide, c.most))
          (λ past.
          let low : slice_index m.least k ≡ 0 = get_or_past m.least k 0 (omega (arith, past, one)) in
          let wide : slice_index m.width k ≡ 0 = get_or_past m.width k 0 (omega (arith, past, other)) in
          omega (arith, low, wide))
          (cases_lt k (length counts));
    }

pub moved_contains : (greatest : List ℕ) (t : Tunnel) (counts : List ℕ) → IsTunnelOf greatest t → IsInTunnel t counts → IsInTunnel (moved_tunnel greatest t counts) counts
moved_contains greatest t counts is within =
    let m = moved_tunnel greatest t counts in
    record {
      width = sym (length-map-range_with_len (λ k. (moved_at greatest t counts k).0) 0 (length counts));
      each = λ k lt.
          let low : slice_index m.least k ≡ (moved_at greatest t counts k).0 = get_or-map-range_with_len (λ k. (moved_at greatest t counts k).0) 0 (length counts) k k 0 lt (omega arith) in
          let wide : slice_index m.width k ≡ (moved_at greatest t counts k).1 = get_or-map-range_with_len (λ k. (moved_at greatest t counts k).1) 0 (length counts) k k 0 lt (omega arith) in
          let c = contained_at greatest t counts k is within lt in
          (omega (arith, low, c.low), omega (arith, low, wide, c.high));
    }

-- ---- the loop over candidates

pub set_next : (f : ℕ → ℕ) (old new : List ℕ) (n k v : ℕ) → k < n → (length old ≡ n) × (take k old ≡ map f (range_with_len 0 k)) → new ≡ set old k v → v ≡ f k
    → (length new ≡ n) × (take (k + 1) new ≡ map f (range_with_len 0 (k + 1)))
set_next f old new n k v lt h e same =
    let within : k < length old = omega (arith, lt, h.0) in
    (rw (e, length-set old k v) h.0, rw (e, map-range_with_len_more f 0 k k (omega arith), take_more_set old k v within, h.1, same) refl)

all_set : (f : ℕ → ℕ) (xs : List ℕ) (n k : ℕ) → k ≡ n → (length xs ≡ n) × (take k xs ≡ map f (range_with_len 0 k)) → xs ≡ map f (range_with_len 0 n)
all_set f xs n k e h =
    let whole : take k xs ≡ xs = take_all k xs (omega (arith, e, h.0)) in
    sym whole ∙ (h.1 ∙ ap (λ (m : ℕ). map f (range_with_len 0 m)) e)

pub moved_is : (greatest : List ℕ) (t : Tunnel) (counts least width : List ℕ) (k : ℕ) → k ≡ length counts
    → (length least ≡ length counts) × (take k least ≡ map (λ k. (moved_at greatest t counts k).0) (range_with_len 0 k))
    → (length width ≡ length counts) × (take k width ≡ map (λ k. (moved_at greatest t counts k).1) (range_with_len 0 k))
    → record { least = least; width = width } ≡ moved_tunnel greatest t counts
moved_is greatest t counts least width k e one other =
    let low = all_set (λ k. (moved_at greatest t counts k).0) least (length counts) k e one in
    let wide = all_set (λ k. (moved_at greatest t counts k).1) width (length counts) k e other in
    λ i. record { least = low i; width = wide i }
