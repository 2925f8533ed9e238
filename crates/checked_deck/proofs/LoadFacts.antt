-- What a deck that meets no row says of loads, shapes and weights.
use Rattle.std.proofs.Common.{◌≡◌, ℕ, zero, suc, ◌+◌, ◌-◌, ◌*◌, ◌/◌, ◌<◌, ◌≤◌, ◌==◌, ◌&&◌, ◌||◌, max, Bool, true, false, not, nat_le, nat_lt, List, [], ◌∷◌, length, map, slice_index, slice_index_or, All, refl, sym, ap, subst, ◌∙◌, arith}
use Rattle.std.specs.Prelude.{fold}
use Rattle.std.specs.List.{range_with_len}
use Rattle.std.proofs.lemmas.Bool.{and_from, eq-eqb, eqb-true, leb-false, lt-ltb, ltb-false, not-false, or_parts}
use Rattle.std.proofs.lemmas.List.Folds.{list_any_at}
use Rattle.std.proofs.lemmas.List.FromFn.{get_or-map-range_with_len, get_or-range_with_len, length-map-range_with_len, length-range_with_len}
use Rattle.deck_lines.specs.Deck.{body_of}
use Rattle.deck_lines.specs.declared.head.Head.TheVariants as heads
use Rattle.deck_lines.specs.declared.statement.Statement.{Statement}
use Rattle.deck_lines.specs.Statements.{from_to, shape}
use Rattle.checked_deck.specs.TypedDeck.{IsTyped}
use Rattle.plant_data.specs.Shapes.{IsFaultless, IsInRange, load_at, no_point, share_at}
use Rattle.plant_data.specs.declared.shape.Load.{Load}
use Rattle.plant_data.specs.declared.shape.Point.{Point}
use Rattle.year_system.specs.System.{IsLoad}
use Rattle.deck_check.specs.DeckFault.{is_bad_point, names_shape, point_load, point_share, stated}
use Rattle.deck_check.specs.FaultTable.{upto}
use Rattle.deck_check.specs.Forms.{bottom, top}
use Rattle.deck_check.specs.Readings.{Says, is_absent, is_there, load_in, loads, number, numbers, peak, periods, point_in, points, years}
use Rattle.deck_check.proofs.Forms.{AreCounted}
use Rattle.checked_deck.proofs.Kept.{each_from_0}
use Rattle.checked_deck.proofs.Sound.{IsSound, first_of_pair, in_upto, most_at, row_at, second_of_pair, sound_is, stated_fails, unmet_one, unmet_two}

-- ---- the LOAD of a year

pub load_there : (d : Says) → IsSound d → (t : ℕ) → 1 ≤ t → t ≤ years d → is_there d (heads.Load t) ≡ true
load_there d s t low high = not-false (is_there d (heads.Load t)) (unmet_one 6 (upto (years d)) (λ x. is_absent d (heads.Load x)) (row_at d s 5 (omega arith)) t (in_upto (years d) t low high))

pub load_count : (d : Says) → IsSound d → (t : ℕ) → 1 ≤ t → t ≤ years d → length (numbers d (heads.Load t)) ≡ 2 * periods d
load_count d s t low high =
    let test : List ℕ → Bool = λ ns. not (length ns == 2 * periods d) in
    let fails = unmet_one 7 (upto (years d)) (λ x. stated d (heads.Load x) test) (row_at d s 6 (omega arith)) t (in_upto (years d) t low high) in
    eqb-true (length (numbers d (heads.Load t))) (2 * periods d)
    (not-false (length (numbers d (heads.Load t)) == 2 * periods d) (stated_fails d (heads.Load t) test fails (load_there d s t low high)))

-- the shape of a period, and that it stands
pub shape_low : (d : Says) → IsSound d → (t i : ℕ) → 1 ≤ t → t ≤ years d → i < periods d → 1 ≤ number d (heads.Load t) (2 * i + 1)
shape_low d s t i low high lt =
    subst (λ k. bottom k ≤ number d (heads.Load t) (2 * i + 1)) (second_of_pair (from_to 1 400_000) shape i)
    ((s.filled (heads.Load t) (load_there d s t low high)).low (2 * i + 1) (rw (load_count d s t low high) (omega (arith, lt))))

pub shape_high : (d : Says) → IsSound d → (t i : ℕ) → number d (heads.Load t) (2 * i + 1) ≤ 100
shape_high d s t i = subst (λ k. number d (heads.Load t) (2 * i + 1) ≤ top k) (second_of_pair (from_to 1 400_000) shape i) (most_at d s (heads.Load t) (2 * i + 1))

pub peak_low : (d : Says) → IsSound d → (t i : ℕ) → 1 ≤ t → t ≤ years d → i < periods d → 1 ≤ number d (heads.Load t) (2 * i)
peak_low d s t i low high lt =
    subst (λ k. bottom k ≤ number d (heads.Load t) (2 * i)) (first_of_pair (from_to 1 400_000) shape i)
    ((s.filled (heads.Load t) (load_there d s t low high)).low (2 * i) (rw (load_count d s t low high) (omega (arith, lt))))

pub peak_high : (d : Says) → IsSound d → (t i : ℕ) → number d (heads.Load t) (2 * i) ≤ 400000
peak_high d s t i = subst (λ k. number d (heads.Load t) (2 * i) ≤ top k) (first_of_pair (from_to 1 400_000) shape i) (most_at d s (heads.Load t) (2 * i))

named : (ns : List ℕ) (n i : ℕ) → length ns ≡ 2 * n → i < n → names_shape (slice_index ns (2 * i + 1)) ns ≡ true
named ns n i len lt =
    let half : length ns / 2 ≡ n = omega (arith, len) in
    let within : i < length (range_with_len 0 (length ns / 2)) = omega (arith, length-range_with_len 0 (length ns / 2), half, lt) in
    let at : slice_index (range_with_len 0 (length ns / 2)) i ≡ i = get_or-range_with_len 0 (length ns / 2) i 0 (omega (arith, half, lt)) ∙ omega arith in
    list_any_at (λ k. slice_index ns (2 * k + 1) == slice_index ns (2 * i + 1)) (range_with_len 0 (length ns / 2)) i 0 within
    (eq-eqb (slice_index ns (2 * slice_index (range_with_len 0 (length ns / 2)) i + 1)) (slice_index ns (2 * i + 1)) (ap (λ k. slice_index ns (2 * k + 1)) at))

pub shape_there : (d : Says) → IsSound d → (t i : ℕ) → 1 ≤ t → t ≤ years d → i < periods d → is_there d (heads.Shape (number d (heads.Load t) (2 * i + 1))) ≡ true
shape_there d s t i low high lt =
    let x = number d (heads.Load t) (2 * i + 1) in
    let there = load_there d s t low high in
    let fails = unmet_two 8 (upto (years d)) (λ y. upto 100) (λ y z. stated d (heads.Load y) (names_shape z) && is_absent d (heads.Shape z)) (row_at d s 7 (omega arith)) t x
    (in_upto (years d) t low high) (in_upto 100 x (shape_low d s t i low high lt) (shape_high d s t i)) in
    let names : stated d (heads.Load t) (names_shape x) ≡ true = and_from (is_there d (heads.Load t)) (names_shape x (numbers d (heads.Load t))) there (named (numbers d (heads.Load t)) (periods d) i (load_count d s t low high) lt) in
    not-false (is_there d (heads.Shape x)) (rw names at fails)

-- ---- the points of a shape that stands

pub points_count : (d : Says) → IsSound d → (x : ℕ) → is_there d (heads.Shape x) ≡ true → (2 ≤ length (points d x)) × (length (points d x) ≤ 64) × (length (numbers d (heads.Shape x)) ≡ 2 * length (points d x))
points_count d s x there =
    let ns = numbers d (heads.Shape x) in
    let counted : AreCounted 2 2 64 (length ns) = s.counted (heads.Shape x) there in
    let len : length (points d x) ≡ length ns / 2 = length-map-range_with_len (point_in ns) 0 (length ns / 2) in
    let half : length ns / 2 ≡ counted.groups = omega (arith, counted.count) in
    (omega (arith, len, half, counted.low), omega (arith, len, half, counted.high), omega (arith, len, half, counted.count))

pub points_range : (d : Says) → IsSound d → (x : ℕ) → All IsInRange (points d x)
points_range d s x =
    let ns = numbers d (heads.Shape x) in
    each_from_0 IsInRange (point_in ns) (length ns / 2)
    (λ i lt. (
      subst (λ k. number d (heads.Shape x) (2 * i) ≤ top k) (first_of_pair (from_to 0 10_000) (from_to 0 10_000) i) (most_at d s (heads.Shape x) (2 * i)),
      subst (λ k. number d (heads.Shape x) (2 * i + 1) ≤ top k) (second_of_pair (from_to 0 10_000) (from_to 0 10_000) i) (most_at d s (heads.Shape x) (2 * i + 1)),
    ))

-- what no point of a shape breaks
record IsGoodPoint (ns : List ℕ) (i : ℕ) : Type 0 where
  first : i ≡ 1 → point_load ns i ≡ 0
  rises : 1 < i → point_load ns (i - 1) < point_load ns i
  falls : 1 < i → point_share ns i ≤ point_share ns (i - 1)
  last : i ≡ length ns / 2 → point_load ns i ≡ 10000

good_point : (ns : List ℕ) (i : ℕ) → is_bad_point i ns ≡ false → IsGoodPoint ns i
good_point ns i h =
    let a = or_parts (((i == 1) && not (point_load ns i == 0)) || (nat_lt 1 i && (nat_le (point_load ns i) (point_load ns (i - 1)) || nat_lt (point_share ns (i - 1)) (point_share ns i)))) ((i == length ns / 2) && not (point_load ns i == 10000)) h in
    let b = or_parts ((i == 1) && not (point_load ns i == 0)) (nat_lt 1 i && (nat_le (point_load ns i) (point_load ns (i - 1)) || nat_lt (point_share ns (i - 1)) (point_share ns i))) a.0 in
    record {
      first = λ e. eqb-true (point_load ns i) 0 (not-false (point_load ns i == 0) (then (i == 1) (not (point_load ns i == 0)) b.0 (eq-eqb i 1 e)));
      rises = λ lt. leb-false (point_load ns i) (point_load ns (i - 1)) (or_parts (nat_le (point_load ns i) (point_load ns (i - 1))) (nat_lt (point_share ns (i - 1)) (point_share ns i)) (then (nat_lt 1 i) (nat_le (point_load ns i) (point_load ns (i - 1)) || nat_lt (point_share ns (i - 1)) (point_share ns i)) b.1 (lt-ltb 1 i lt))).0;
      falls = λ lt. ltb-false (point_share ns (i - 1)) (point_share ns i) (or_parts (nat_le (point_load ns i) (point_load ns (i - 1))) (nat_lt (point_share ns (i - 1)) (point_share ns i)) (then (nat_lt 1 i) (nat_le (point_load ns i) (point_load ns (i - 1)) || nat_lt (point_share ns (i - 1)) (point_share ns i)) b.1 (lt-ltb 1 i lt))).1;
      last = λ e. eqb-true (point_load ns i) 10000 (not-false (point_load ns i == 10000) (then (i == length ns / 2) (not (point_load ns i == 10000)) a.1 (eq-eqb i (length ns / 2) e)));
    }
  where
    then : (a b : Bool) → (a && b) ≡ false → a ≡ true → b ≡ false
    then a b f t = rw t at f

load_of_point : (ns : List ℕ) (n i : ℕ) → i < n → load_at (map (point_in ns) (range_with_len 0 n)) i ≡ point_load ns (i + 1)
load_of_point ns n i lt =
    let e : i + 1 - 1 ≡ i = omega arith in
    ap (λ (p : Point). p.load) (get_or-map-range_with_len (point_in ns) 0 n i i no_point lt (omega arith)) ∙ ap (λ k. slice_index ns (2 * k)) (sym e)

share_of_point : (ns : List ℕ) (n i : ℕ) → i < n → share_at (map (point_in ns) (range_with_len 0 n)) i ≡ point_share ns (i + 1)
share_of_point ns n i lt =
    let e : i + 1 - 1 ≡ i = omega arith in
    ap (λ (p : Point). p.share) (get_or-map-range_with_len (point_in ns) 0 n i i no_point lt (omega arith)) ∙ ap (λ k. slice_index ns (2 * k + 1)) (sym e)

good_points : (ns : List ℕ) (n : ℕ) → n ≡ length ns / 2 → 1 ≤ n → ((i : ℕ) → 1 ≤ i → i ≤ n → IsGoodPoint ns i) → IsFaultless (map (point_in ns) (range_with_len 0 n))
good_points ns n e some good =
    let len : length (map (point_in ns) (range_with_len 0 n)) ≡ n = length-map-range_with_len (point_in ns) 0 n in
    record {
      first = load_of_point ns n 0 some ∙ (good 1 (omega arith) some).first refl;
      rises = λ i lt. let next : i + 1 < n = omega (arith, lt, len) in
          let here : i < n = omega (arith, next) in
          let back : i + 1 + 1 - 1 ≡ i + 1 = omega arith in
          rw (load_of_point ns n i here, load_of_point ns n (i + 1) next) (subst (λ k. point_load ns k < point_load ns (i + 1 + 1)) back ((good (i + 1 + 1) (omega arith) (omega (arith, next))).rises (omega arith)));
      falls = λ i lt. let next : i + 1 < n = omega (arith, lt, len) in
          let here : i < n = omega (arith, next) in
          let back : i + 1 + 1 - 1 ≡ i + 1 = omega arith in
          rw (share_of_point ns n i here, share_of_point ns n (i + 1) next) (subst (λ k. point_share ns (i + 1 + 1) ≤ point_share ns k) back ((good (i + 1 + 1) (omega arith) (omega (arith, next))).falls (omega arith)));
      last = let end : n - 1 < n = omega (arith, some) in
          let again : n - 1 + 1 ≡ n = omega (arith, some) in
          rw len (load_of_point ns n (n - 1) end ∙ ap (λ k. point_load ns k) again ∙ (good n some (omega arith)).last e);
    }

pub points_faultless : (d : Says) → IsSound d → (x : ℕ) → 1 ≤ x → x ≤ 100 → is_there d (heads.Shape x) ≡ true → IsFaultless (points d x)
points_faultless d s x low high there =
    let ns = numbers d (heads.Shape x) in
    let counted : AreCounted 2 2 64 (length ns) = s.counted (heads.Shape x) there in
    let half : length ns / 2 ≡ counted.groups = omega (arith, counted.count) in
    good_points ns (length ns / 2) refl (omega (arith, half, counted.low))
    (λ i from to. good_point ns i (unmet_two 9 (upto 100) (λ y. upto (length (numbers d (heads.Shape y)) / 2)) (λ y k. is_bad_point k (numbers d (heads.Shape y))) (row_at d s 8 (omega arith)) x i
    (in_upto 100 x low high) (in_upto (length ns / 2) i from to)))

-- ---- loads

pub load_is : (d : Says) → IsSound d → (t i : ℕ) → 1 ≤ t → t ≤ years d → i < periods d → IsLoad (load_in d t i)
load_is d s t i low high lt =
    let x = number d (heads.Load t) (2 * i + 1) in
    let there = shape_there d s t i low high lt in
    let count = points_count d s x there in
    record {
      peak = (peak_low d s t i low high lt, peak_high d s t i);
      points = (count.0, count.1);
      range = points_range d s x;
      faultless = points_faultless d s x (shape_low d s t i low high lt) (shape_high d s t i) there;
    }

fold_more : (ls : List Load) (most : ℕ) → most ≤ fold (λ m l. max m l.peak) most ls
fold_more [] most = omega arith
fold_more (l ∷ ls) most = omega (arith, fold_more ls (max most l.peak))

among : (ls : List Load) (most i : ℕ) (dl : Load) → i < length ls → (slice_index_or ls i dl).peak ≤ fold (λ m l. max m l.peak) most ls
among [] most i dl lt = absurd (omega arith)
among (l ∷ ls) most zero dl lt = omega (arith, fold_more ls (max most l.peak))
among (l ∷ ls) most (suc i) dl lt = among ls (max most l.peak) i dl (omega arith)

pub peak_within : (d : Says) (t i : ℕ) → i < periods d → (load_in d t i).peak ≤ peak d t
peak_within d t i lt =
    let at : slice_index_or (loads d t) i (load_in d t 0) ≡ load_in d t i = get_or-map-range_with_len (load_in d t) 0 (periods d) i i (load_in d t 0) lt (omega arith) in
    subst (λ (l : Load). l.peak ≤ peak d t) at (among (loads d t) 0 i (load_in d t 0) (rw (length-map-range_with_len (load_in d t) 0 (periods d)) lt))

-- the points that were read of the shape of a period
pub record ArePoints (items : List Point) : Type 0 where
  pub low : 2 ≤ length items
  pub high : length items ≤ 64
  pub range : All IsInRange items

pub read_points : (deck : List Statement) (t i x : ℕ) (load : List ℕ) (items : List Point) → IsTyped deck → 1 ≤ t → t ≤ years (body_of deck) → i < periods (body_of deck) → load ≡ numbers (body_of deck) (heads.Load t) → x ≡ slice_index load (2 * i + 1) → items ≡ points (body_of deck) x → ArePoints items
read_points deck t i x load items typed low high lt e at is =
    let d = body_of deck in
    let s = sound_is deck typed in
    let same : x ≡ number d (heads.Load t) (2 * i + 1) = at ∙ ap (λ (ns : List ℕ). slice_index ns (2 * i + 1)) e in
    let count = points_count d s (number d (heads.Load t) (2 * i + 1)) (shape_there d s t i low high lt) in
    let whole : ArePoints (points d (number d (heads.Load t) (2 * i + 1))) = record { low = count.0; high = count.1; range = points_range d s (number d (heads.Load t) (2 * i + 1)) } in
    subst ArePoints (sym (is ∙ ap (points d) same)) whole
