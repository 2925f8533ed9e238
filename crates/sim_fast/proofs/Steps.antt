-- One unit more stands behind what stood.
use Rattle.std.proofs.Common.{◌≡◌, ℕ, ◌+◌, ◌<◌, ◌≤◌, List, [], ◌∷◌, ◌++◌, length, take, map, sym, ap, ◌∙◌, arith, inl, inr, subst, length-append}
use Rattle.std.proofs.lemmas.Bool.{cases_lt}
use Rattle.std.proofs.lemmas.Grind.{common_steps}
use Rattle.std.proofs.lemmas.List.{get_or-take, map_more, take-take}
use Rattle.wasp_fixed.specs.Curves.{area, cell}
use Rattle.sim_fast.specs.Behind.{load_past, shifted_step}
use Rattle.sim_fast.specs.Turns.{Stands, no_turn, part_of, past, turn_at}
use Rattle.sim_fast.specs.Kept.{IsKept, IsShelf, KeptView, kept_at}
use Rattle.sim_fast.specs.declared.turn.TheConstants.{MAX_UNITS}
use Rattle.sim_fast.specs.declared.turn.Turn.{Turn}
use Rattle.sim_fast.proofs.Pasts.{past-more, past-none}

pub past-next : (base : ℕ → ℕ) (turns : List Turn) (n : ℕ) (y : ℕ) → n < length turns → past base turns (n + 1) y ≡ shifted_step (past base turns n) (turn_at turns n).full (turn_at turns n).rate y
past-next base turns n y h =
    ap (λ ps. load_past base ps y) (map_more part_of turns n no_turn h)
    ∙ past-more base (map part_of (take n turns)) (part_of (turn_at turns n)) y

pub stands-more : (base : ℕ → ℕ) (turns : List Turn) (n : ℕ) (cells lower upper cells' lower' upper' : List ℕ) → n < length turns →
    ((y : ℕ) → cell cells' y ≡ shifted_step (cell cells) (turn_at turns n).full (turn_at turns n).rate y) →
    cell lower' n ≡ area (cell cells) 0 (turn_at turns n).least →
    cell upper' n ≡ area (cell cells) (turn_at turns n).least (turn_at turns n).full →
    ((j : ℕ) → j < n → cell lower' j ≡ cell lower j) → ((j : ℕ) → j < n → cell upper' j ≡ cell upper j) →
    Stands base turns n cells lower upper → Stands base turns (n + 1) cells' lower' upper'
stands-more base turns n cells lower upper cells' lower' upper' h tail low up low_kept up_kept s =
    let f : cell cells ≡ past base turns n = λ i y. s.tail y i in
    let t = turn_at turns n in
    record {
      tail = λ y. tail y ∙ (ap (λ g. shifted_step g t.full t.rate y) f ∙ sym (past-next base turns n y h));
      lower_is = λ j lt. elim (cases_lt j n) [
        | inl before ↦ low_kept j before ∙ s.lower_is j before
        | inr after ↦
            let e : j ≡ n = omega (arith, lt, after) in
            rw e (low ∙ ap (λ g. area g 0 t.least) f)
      ];
      upper_is = λ j lt. elim (cases_lt j n) [
        | inl before ↦ up_kept j before ∙ s.upper_is j before
        | inr after ↦
            let e : j ≡ n = omega (arith, lt, after) in
            rw e (up ∙ ap (λ g. area g t.least t.full) f)
      ];
    }

-- what stands behind a list that is the beginning of another one stands behind the beginning of that
past-start : (base : ℕ → ℕ) (start turns : List Turn) (n k : ℕ) → start ≡ take n turns → k ≤ n → past base start k ≡ past base turns k
past-start base start turns n k e h =
    ap (λ ts. load_past base (map part_of ts)) (ap (take k) e ∙ take-take k n turns h)

turn-start : (start turns : List Turn) (n j : ℕ) → start ≡ take n turns → j < n → turn_at start j ≡ turn_at turns j
turn-start start turns n j e h = ap (λ ts. turn_at ts j) e ∙ get_or-take n turns j no_turn h

pub stands-start : (base : ℕ → ℕ) (start turns : List Turn) (n : ℕ) (cells lower upper : List ℕ) → start ≡ take n turns → Stands base start n cells lower upper → Stands base turns n cells lower upper
stands-start base start turns n cells lower upper e s =
    record {
      tail = λ y. s.tail y ∙ (λ i. past-start base start turns n n e (omega arith) i y);
      lower_is = λ j lt. s.lower_is j lt ∙ (λ i. area (past-start base start turns n j e (omega (arith, lt)) i) 0 (turn-start start turns n j e lt i).least);
      upper_is = λ j lt. s.upper_is j lt ∙ (λ i. area (past-start base start turns n j e (omega (arith, lt)) i) (turn-start start turns n j e lt i).least (turn-start start turns n j e lt i).full);
    }

pub start-stands : (base : ℕ → ℕ) (start turns : List Turn) (n : ℕ) (cells lower upper : List ℕ) → start ≡ take n turns → Stands base turns n cells lower upper → Stands base start n cells lower upper
start-stands base start turns n cells lower upper e s =
    record {
      tail = λ y. s.tail y ∙ sym (λ i. past-start base start turns n n e (omega arith) i y);
      lower_is = λ j lt. s.lower_is j lt ∙ sym (λ i. area (past-start base start turns n j e (omega (arith, lt)) i) 0 (turn-start start turns n j e lt i).least);
      upper_is = λ j lt. s.upper_is j lt ∙ sym (λ i. area (past-start base start turns n j e (omega (arith, lt)) i) (turn-start start turns n j e lt i).least (turn-start start turns n j e lt i).full);
    }

-- a load behind which nothing is loaded
pub stands-none : (base : ℕ → ℕ) (turns : List Turn) (cells lower upper : List ℕ) → ((y : ℕ) → cell cells y ≡ base y) → Stands base turns 0 cells lower upper
stands-none base turns cells lower upper h =
    record {
      tail = λ y. h y ∙ sym (past-none base y);
      lower_is = λ j lt. absurd (omega (arith, lt));
      upper_is = λ j lt. absurd (omega (arith, lt));
    }

-- one place more at which nothing is kept
pub shelf-push : (base : ℕ → ℕ) (room : ℕ) (kept : List KeptView) (k : KeptView) → IsShelf base room kept → k.turns ≡ [] → k.room ≡ room → k.places ≡ MAX_UNITS → IsShelf base room (kept ++ k ∷ [])
shelf-push base room kept k s none same places =
    let n = length kept in
    let at : kept_at (kept ++ k ∷ []) n ≡ k = grind (arith, common_steps) in
    let len : length (kept ++ k ∷ []) ≡ n + 1 = omega (arith, length-append kept (k ∷ [])) in
    let before : (i : ℕ) → i < n → kept_at (kept ++ k ∷ []) i ≡ kept_at kept i = λ i h. grind (arith, common_steps, h) in
    record {
      stands = λ i h. elim (cases_lt i n) [
        | inl lt ↦ subst (IsKept base) (sym (before i lt)) (s.stands i lt)
        | inr ge ↦
            let e : i ≡ n = omega (arith, h, len, ge) in
            let z : (kept_at (kept ++ k ∷ []) i).turns ≡ [] = ap (λ j. (kept_at (kept ++ k ∷ []) j).turns) e ∙ (ap (λ (v : KeptView). v.turns) at ∙ none) in
            λ some. absurd (omega (arith, some, ap length z))
      ];
      rooms = λ i h. elim (cases_lt i n) [
        | inl lt ↦ ap (λ (v : KeptView). v.room) (before i lt) ∙ s.rooms i lt
        | inr ge ↦
            let e : i ≡ n = omega (arith, h, len, ge) in
            ap (λ j. (kept_at (kept ++ k ∷ []) j).room) e ∙ (ap (λ (v : KeptView). v.room) at ∙ same)
      ];
      places = λ i h. elim (cases_lt i n) [
        | inl lt ↦ ap (λ (v : KeptView). v.places) (before i lt) ∙ s.places i lt
        | inr ge ↦
            let e : i ≡ n = omega (arith, h, len, ge) in
            ap (λ j. (kept_at (kept ++ k ∷ []) j).places) e ∙ (ap (λ (v : KeptView). v.places) at ∙ places)
      ];
    }
