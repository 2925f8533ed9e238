-- The energies of laid blocks are those of the period.
use Rattle.std.proofs.Common.{◌≡◌, ℕ, zero, suc, ◌+◌, ◌-◌, ◌*◌, ◌/◌, ◌%◌, ◌<◌, ◌≤◌, ◌++◌, List, [], ◌∷◌, ltb, true, false, length, get_or, map, take, sum, sym, ap, ◌∙◌, arith, lit<, refl, cond}
use Rattle.std.specs.List.{AllByRecursion, range_with_len}
use Rattle.std.proofs.lemmas.List.Elements.{All-take, recursion_from_All}
use Rattle.std.proofs.lemmas.List.{take_all}
use Rattle.std.proofs.Math.Nat.{mul-add-div_right}
use Rattle.std.proofs.lemmas.List.FromFn.{map-range_with_len_more, sum_by-map-range_with_len_more}
use Rattle.wasp_fixed.specs.Curves.{area, before, cell, IsAtMostOne}
use Rattle.wasp_fixed.specs.declared.numbers.TheConstants.{M, ONE}
use Rattle.convolution.specs.EquivalentLoad.{eq_step, equivalent_load}
use Rattle.convolution.proofs.Means.{two_states-div-le}
use Rattle.loading_order.specs.declared.blocks.Block.{Block}
use Rattle.sim_engine.specs.Loading.{block_energy, cells_in, energies, loaded, lolp, others, unserved}
use Rattle.sim_fast.specs.Behind.{cells_of}
use Rattle.sim_fast.specs.Turns.{IsTurn, Stands, part_of, past, turn_at}
use Rattle.sim_fast.specs.declared.turn.Turn.{Turn}
use Rattle.sim_engine.specs.Laid.{IsLaid, IsPlaced, below, block_at, covered, energy_at, mark_at, period_with, up_to}
use Rattle.sim_engine.specs.declared.lay.Mark.{Mark}

pub total-more : (was e s c m d w : ℕ) → was ≤ c * w → e ≤ m * w → d ≡ c + m → s ≡ was + e → s ≤ d * w
total-more was e s c m d w h i j k = rw (j, k) (omega (arith, h, i))

-- an area that is counted from n on
abbrev run : (ℕ → ℕ) → ℕ → ℕ → ℕ
run curve from n = sum (map curve (range_with_len from n))

run-more : (curve : ℕ → ℕ) (from n : ℕ) → run curve from (suc n) ≡ run curve from n + curve (from + n)
run-more curve from n =
    let e : n + 1 ≡ suc n = omega arith in
    rw e at (sum_by-map-range_with_len_more (λ x. x) curve from n (from + n) refl)

run-from : (f : ℕ → ℕ) (n a len : ℕ) → run f (n + a) len ≡ run (λ y. f (n + y)) a len
run-from f n a zero = refl
run-from f n a (suc len) =
    let e : n + a + len ≡ n + (a + len) = omega arith in
    run-more f (n + a) len ∙ ((λ i. run-from f n a len i + f (e i)) ∙ sym (run-more (λ y. f (n + y)) a len))

area-from : (f : ℕ → ℕ) (n a b : ℕ) → area f (n + a) (n + b) ≡ area (λ y. f (n + y)) a b
area-from f n a b =
    let e : n + b - (n + a) ≡ b - a = omega arith in
    ap (λ len. sum (map f (range_with_len (n + a) len))) e ∙ run-from f n a (b - a)

-- what a placed block covers
abbrev block_area : (ℕ → ℕ) → ℕ → List ℕ → List Block → ℕ → ℕ
block_area base step av bs k =
    area (equivalent_load base (loaded step av (others (block_at bs k).unit (take k bs)))) (cells_in step (take k bs)) (cells_in step (take k bs) + (block_at bs k).capacity / step)

area-placed : (base : ℕ → ℕ) (step : ℕ) (av : List ℕ) (bs : List Block) (ts : List Turn) (k : ℕ) (m : Mark) → IsPlaced step av bs ts k m → block_area base step av bs k ≡ area (past base ts m.turn) (below m (turn_at ts m.turn)) (up_to m (turn_at ts m.turn))
area-placed base step av bs ts k m p =
    let t = turn_at ts m.turn in
    let n = cells_of (map part_of (take m.turn ts)) in
    let to : cells_in step (take k bs) + (block_at bs k).capacity / step ≡ n + up_to m t = omega (arith, p.from_is, p.to_is) in
    (λ i. area (equivalent_load base (p.others_are i)) (p.from_is i) (to i)) ∙ area-from (equivalent_load base (map part_of (take m.turn ts))) n (below m t) (up_to m t)

covered-is : (base : ℕ → ℕ) (ts : List Turn) (n : ℕ) (cells lower upper : List ℕ) (m : Mark) → Stands base ts n cells lower upper → m.turn < n → covered m lower upper ≡ area (past base ts m.turn) (below m (turn_at ts m.turn)) (up_to m (turn_at ts m.turn))
covered-is base ts n cells lower upper m s h =
    elim m.upper as (λ u. cond u (get_or upper m.turn 0) (get_or lower m.turn 0) ≡ area (past base ts m.turn) (cond u (turn_at ts m.turn).least 0) (cond u (turn_at ts m.turn).full (turn_at ts m.turn).least)) [
      | true ↦ s.upper_is m.turn h
      | false ↦ s.lower_is m.turn h
    ]

pub energy-is : (base : ℕ → ℕ) (bs : List Block) (av : List ℕ) (top step hours : ℕ) (ts : List Turn) (ms : List Mark) (cells lower upper : List ℕ) (k : ℕ) → IsLaid step av bs (length bs) ts ms → Stands base ts (length ts) cells lower upper → k < length bs → energy_at step hours bs av ms lower upper k ≡ block_energy (period_with base bs av top step hours) k
energy-is base bs av top step hours ts ms cells lower upper k laid s h =
    let p = laid.places k h in
    let e : covered (mark_at ms k) lower upper ≡ block_area base step av bs k = covered-is base ts (length ts) cells lower upper (mark_at ms k) s p.within ∙ sym (area-placed base step av bs ts k (mark_at ms k) p) in
    ap (λ a. get_or av (block_at bs k).unit 0 * a * (step * hours) / (M * ONE)) e

-- what is not served
past-all : (base : ℕ → ℕ) (bs : List Block) (av : List ℕ) (step : ℕ) (ts : List Turn) (ms : List Mark) (y : ℕ) → IsLaid step av bs (length bs) ts ms → past base ts (length ts) y ≡ equivalent_load base (loaded step av bs) (cells_in step bs + y)
past-all base bs av step ts ms y laid =
    let a : take (length ts) ts ≡ ts = take_all (length ts) ts (omega arith) in
    let b : take (length bs) bs ≡ bs = take_all (length bs) bs (omega arith) in
    let w : loaded step av bs ≡ map part_of ts = sym (ap (loaded step av) b) ∙ laid.whole in
    let c : cells_in step bs ≡ cells_of (map part_of ts) = sym (ap (cells_in step) b) ∙ laid.cells in
    (λ i. equivalent_load base (map part_of (a i)) (cells_of (map part_of (a i)) + y)) ∙ sym (λ i. equivalent_load base (w i) (c i + y))

pub lolp-is : (base : ℕ → ℕ) (bs : List Block) (av : List ℕ) (top step hours : ℕ) (ts : List Turn) (ms : List Mark) (cells lower upper : List ℕ) → IsLaid step av bs (length bs) ts ms → Stands base ts (length ts) cells lower upper → cell cells 0 ≡ lolp (period_with base bs av top step hours)
lolp-is base bs av top step hours ts ms cells lower upper laid s =
    let z : cells_in step bs + 0 ≡ cells_in step bs = omega arith in
    s.tail 0 ∙ (past-all base bs av step ts ms 0 laid ∙ ap (equivalent_load base (loaded step av bs)) z)

pub unserved-is : (base : ℕ → ℕ) (bs : List Block) (av : List ℕ) (top step hours : ℕ) (ts : List Turn) (ms : List Mark) (cells lower upper : List ℕ) → IsLaid step av bs (length bs) ts ms → Stands base ts (length ts) cells lower upper → area (cell cells) 0 top * (step * hours) / ONE ≡ unserved (period_with base bs av top step hours)
unserved-is base bs av top step hours ts ms cells lower upper laid s =
    let n = cells_in step bs in
    let f = equivalent_load base (loaded step av bs) in
    let z : n + 0 ≡ n = omega arith in
    let g : cell cells ≡ (λ y. f (n + y)) = λ i y. (s.tail y ∙ past-all base bs av step ts ms y laid) i in
    let e : area (cell cells) 0 top ≡ area f n (n + top) = ap (λ h. area h 0 top) g ∙ (sym (area-from f n 0 top) ∙ ap (λ m. area f m (n + top)) z) in
    ap (λ a. a * (step * hours) / ONE) e

-- the energies together
maps-same : (f g : ℕ → ℕ) (from n : ℕ) → ((k : ℕ) → k < from + n → f k ≡ g k) → map f (range_with_len from n) ≡ map g (range_with_len from n)
maps-same f g from zero h = refl
maps-same f g from (suc n) h =
    let e : n + 1 ≡ suc n = omega arith in
    let v : f (from + n) ≡ g (from + n) = h (from + n) (omega arith) in
    rw e at (map-range_with_len_more f from n (from + n) refl ∙ ((λ i. maps-same f g from n (λ k lt. h k (omega (arith, lt))) i ++ v i ∷ []) ∙ sym (map-range_with_len_more g from n (from + n) refl)))

-- no load is above one
eq_step-most : (f : ℕ → ℕ) (c r : ℕ) → r ≤ M → IsAtMostOne f → IsAtMostOne (eq_step f c r)
eq_step-most f c r h most x =
    two_states-div-le r (f x) (before ONE f c x) ONE h (most x) (elim (ltb x c) as (λ t. cond t ONE (f (x - c)) ≤ ONE) [ true ↦ omega arith | false ↦ most (x - c) ])

load-most : (base : ℕ → ℕ) (ts : List Turn) → AllByRecursion IsTurn ts → IsAtMostOne base → IsAtMostOne (equivalent_load base (map part_of ts))
load-most base [] a most = most
load-most base (t ∷ ts) a most = load-most (eq_step base t.full t.rate) ts a.1 (eq_step-most base t.full t.rate a.0.rate most)

run-most : (f : ℕ → ℕ) (from n : ℕ) → IsAtMostOne f → run f from n ≤ n * ONE
run-most f from zero most = omega arith
run-most f from (suc n) most =
    omega (arith, run-more f from n, run-most f from n most, most (from + n))

pub covered-most : (base : ℕ → ℕ) (step : ℕ) (av : List ℕ) (bs : List Block) (ts : List Turn) (ms : List Mark) (cells lower upper : List ℕ) (k : ℕ) → IsAtMostOne base → IsLaid step av bs (length bs) ts ms → Stands base ts (length ts) cells lower upper → k < length bs → covered (mark_at ms k) lower upper ≤ (block_at bs k).capacity / step * ONE
covered-most base step av bs ts ms cells lower upper k most laid s h =
    let m = mark_at ms k in
    let p = laid.places k h in
    let t = turn_at ts m.turn in
    let n = cells_of (map part_of (take m.turn ts)) in
    let sound : AllByRecursion IsTurn (take m.turn ts) = recursion_from_All IsTurn (take m.turn ts) (All-take IsTurn m.turn ts laid.sound) in
    let up : IsAtMostOne (past base ts m.turn) = λ y. load-most base (take m.turn ts) sound most (n + y) in
    let w : up_to m t - below m t ≡ (block_at bs k).capacity / step = omega (arith, p.to_is) in
    rw (covered-is base ts (length ts) cells lower upper m s p.within, ← w) (run-most (past base ts m.turn) (below m t) (up_to m t - below m t) up)

pub energies-are : (base : ℕ → ℕ) (bs : List Block) (av : List ℕ) (top step hours : ℕ) (ts : List Turn) (ms : List Mark) (cells lower upper : List ℕ) → IsLaid step av bs (length bs) ts ms → Stands base ts (length ts) cells lower upper → map (λ k. energy_at step hours bs av ms lower upper k) (range_with_len 0 (length bs)) ≡ energies (period_with base bs av top step hours)
energies-are base bs av top step hours ts ms cells lower upper laid s =
    maps-same _ _ 0 (length bs) (λ k h. energy-is base bs av top step hours ts ms cells lower upper k laid s (omega (arith, h)))

-- a quotient with what is whole before the factor
whole-parted : (p q r h : ℕ) → p ≡ q * (M * ONE) + r → q * h + r * h / (M * ONE) ≡ p * h / (M * ONE)
whole-parted p q r h e =
    let n : p * h ≡ q * h * (M * ONE) + r * h = rw e (omega arith) in
    sym (ap (λ x. x / (M * ONE)) n ∙ mul-add-div_right {m = M * ONE} (lit< tt) (q * h) (r * h))

pub whole-first : (p h : ℕ) → p / (M * ONE) * h + p % (M * ONE) * h / (M * ONE) ≡ p * h / (M * ONE)
whole-first p h = whole-parted p (p / (M * ONE)) (p % (M * ONE)) h (omega arith)
